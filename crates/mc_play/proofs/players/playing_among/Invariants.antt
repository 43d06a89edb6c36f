use Rattle.std.proofs.Common.{◌≡◌}
use Rattle.mc_model.specs.Pickups.{playing_as}
use Rattle.mc_play.proofs.players.playing_among.Given as goal

-- the one among what is left is the one among all
abbrev pub invariant-loop-connection : goal.invariant-loop-connection
invariant-loop-connection l =
    playing_as l.eid l.connection-iterator ≡ playing_as l.eid l.players.entries
