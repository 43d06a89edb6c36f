use Rattle.mc_bot.proofs.Askable.{can_close}
use Rattle.mc_bot.proofs.asking.close.Goals as goal

pub returns-clause-can : goal.returns-clause-can
returns-clause-can c = can_close c.args.window c.ranges.window.fits
