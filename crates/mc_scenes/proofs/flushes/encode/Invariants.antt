use Rattle.std.specs.List.{AllByRecursion}
use Rattle.mc_flush.specs.Encoding.{AreFrames}
use Rattle.mc_loads.specs.Columns.{IsReady}
use Rattle.mc_scenes.proofs.flushes.encode.Given as goal

-- what is left is ready, and what was encoded are the frames
abbrev pub invariant-loop-place : goal.invariant-loop-place
invariant-loop-place g l = record {
  ready : AllByRecursion (IsReady l.scene.land) l.place-iterator;
  frames : AreFrames l.scene.land l.scene.guests l.encoded;
}
