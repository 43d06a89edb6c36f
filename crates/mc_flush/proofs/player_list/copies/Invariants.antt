use Rattle.std.proofs.Common.{◌≡◌, ◌++◌}
use Rattle.mc_flush.proofs.player_list.copies.Given as goal

-- what was copied and what is left make all
abbrev pub invariant-loop-uuid : goal.invariant-loop-uuid
invariant-loop-uuid l = l.copies.entries ++ l.uuid-iterator ≡ l.players.entries
