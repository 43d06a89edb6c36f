use Rattle.std.proofs.Common.{◌≡◌, List, ℕ, length, drop}
use Rattle.mc_frame.specs.Kept.{kept_bytes, ArePieces}
use Rattle.mc_frame.proofs.outbox.drop_before.Given as goal

abbrev pub invariant-loop-first : goal.invariant-loop-first
invariant-loop-first l = record {
  pieces_fit : ArePieces l.pieces.items;
  rest : (small : List ℕ) → drop l.at (kept_bytes l.pieces.items small)
      ≡ drop l.fn.place (kept_bytes l.fn.pieces.items small);
}

abbrev pub decreases-loop-first : goal.decreases-loop-first
decreases-loop-first l = length l.pieces.items
