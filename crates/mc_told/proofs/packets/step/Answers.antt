use Rattle.std.specs.Int.{w32, w8}
use Rattle.std.proofs.lemmas.Int.{to_z-of_z}
use Rattle.mc_model.proofs.FitsMoves.{step_clear}
use Rattle.mc_told.proofs.packets.step.Goals as goal

pub returns-clause-clear : goal.returns-clause-clear
returns-clause-clear c = rw (
  to_z-of_z w32 c.args.eid c.ranges.eid,
  to_z-of_z w8 c.args.dx c.ranges.dx,
  to_z-of_z w8 c.args.dy c.ranges.dy,
  to_z-of_z w8 c.args.dz c.ranges.dz,
) (step_clear c.args.eid c.args.dx c.args.dy c.args.dz
    c.ranges.eid c.ranges.dx c.ranges.dy c.ranges.dz)
