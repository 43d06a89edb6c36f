use Rattle.std.proofs.Common.{◌≡◌, ◌+◌, nat_le, length, drop}
use Rattle.mc_frame.specs.Kept.{joined, outbox_max}
use Rattle.mc_links.proofs.backlog.Backlog.has_room_for.Given as goal

-- what is left fits into the room that is left just where all fits
abbrev pub invariant-loop-piece : goal.invariant-loop-piece
invariant-loop-piece l =
    nat_le (length l.self + length (joined l.pieces)) outbox_max
    ≡ nat_le (length (joined (drop l.piece-index l.pieces))) l.room
