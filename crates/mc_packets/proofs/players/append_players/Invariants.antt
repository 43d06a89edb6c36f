use Rattle.std.proofs.Common.{drop}
use Rattle.mc_bytes.proofs.Appends.{IsWriting}
use Rattle.mc_packets.specs.PlayerChange.{player}
use Rattle.mc_packets.proofs.players.append_players.Given as goal

abbrev pub invariant-loop-item : goal.invariant-loop-item
invariant-loop-item l = IsWriting (player l.action).append (drop l.item-index l.items) l.items
    l.fn.out.items l.out.items
