use Rattle.std.proofs.Common.{◌≡◌, true}
use Rattle.mc_capture_rows.proofs.tapes.steps.Given as goal

-- it listens before each step
abbrev pub invariant-loop : goal.invariant-loop
invariant-loop g l = g.L.Lobby.listens l.lobby ≡ true
