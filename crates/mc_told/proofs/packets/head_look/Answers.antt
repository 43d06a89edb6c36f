use Rattle.std.proofs.Common.{arith}
use Rattle.std.specs.Int.{w32}
use Rattle.std.proofs.lemmas.Int.{to_z-of_z}
use Rattle.mc_model.proofs.FitsMoves.{head_clear}
use Rattle.mc_told.proofs.packets.head_look.Goals as goal

pub returns-clause-clear : goal.returns-clause-clear
returns-clause-clear c = rw (to_z-of_z w32 c.args.eid c.ranges.eid)
    (head_clear c.args.eid c.args.yaw c.ranges.eid (omega arith))
