use Rattle.std.proofs.Common.{rules, subst}
use Rattle.mc_play.specs.Kept.{IsNear}
use Rattle.mc_play.proofs.States.{floor_near}
use Rattle.mc_play.proofs.game.digging.floor_of.Goals as goal

pub returns-clause-near : goal.returns-clause-near
returns-clause-near c = subst IsNear (search rules) (floor_near c.args.cell.now c.requires)
