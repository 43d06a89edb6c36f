use Rattle.std.proofs.Common.{◌≡◌}
use Rattle.mc_play.specs.Kept.{mobs_begun}
use Rattle.mc_play.proofs.entities.Entities.with_mobs.Given as goal

-- so many mobs stand where they begin
abbrev pub invariant-loop-i : goal.invariant-loop-i
invariant-loop-i l = l.entities.state ≡ mobs_begun l.terrain l.i
