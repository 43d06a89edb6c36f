use Rattle.mc_model.proofs.FitsDue.{close_clear}
use Rattle.mc_flush.proofs.windows.put_close.Goals as goal

pub put_made-requires : goal.put_made-requires
put_made-requires c = close_clear c.args.number c.ranges.number.fits
