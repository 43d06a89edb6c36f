use Rattle.std.proofs.Common.{sym, subst}
use Rattle.mc_model.proofs.FitsDue.{open_clear}
use Rattle.mc_sending.specs.Sending.{IsClear}
use Rattle.mc_flush.proofs.windows.put_opening.Goals as goal

pub put_made-requires : goal.put_made-requires
put_made-requires c =
    subst IsClear (sym c.in_ok-opening.ensures) (open_clear c.args.number c.ranges.number.fits)
