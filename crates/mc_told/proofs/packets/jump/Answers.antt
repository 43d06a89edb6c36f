use Rattle.std.proofs.Common.{arith}
use Rattle.std.specs.Int.{w32}
use Rattle.std.proofs.lemmas.Int.{to_z-of_z}
use Rattle.mc_model.proofs.FitsMoves.{jump_clear}
use Rattle.mc_told.proofs.packets.jump.Goals as goal

pub returns-clause-clear : goal.returns-clause-clear
returns-clause-clear c = rw (
  to_z-of_z w32 c.args.eid c.ranges.eid,
  to_z-of_z w32 c.args.x c.ranges.x,
  to_z-of_z w32 c.args.y c.ranges.y,
  to_z-of_z w32 c.args.z c.ranges.z,
) (jump_clear c.args.eid c.args.x c.args.y c.args.z c.args.yaw c.args.pitch
    c.ranges.eid c.ranges.x c.ranges.y c.ranges.z (omega arith) (omega arith))
