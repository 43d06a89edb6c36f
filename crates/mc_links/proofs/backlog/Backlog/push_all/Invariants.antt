use Rattle.std.proofs.Common.{◌≡◌, ◌++◌}
use Rattle.mc_frame.specs.Kept.{joined}
use Rattle.mc_links.proofs.backlog.Backlog.push_all.Given as goal

-- what was put and what is left are together all
abbrev pub invariant-loop-piece : goal.invariant-loop-piece
invariant-loop-piece l =
    l.self ++ joined l.piece-iterator.rest.items ≡ l.fn.self ++ joined l.fn.pieces.items
