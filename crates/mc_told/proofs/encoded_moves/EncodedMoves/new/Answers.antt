use Rattle.std.proofs.Common.{List, ◌∙◌, ap}
use Rattle.std.specs.Ordering.{int_cmp}
use Rattle.std.specs.FinMap.{from_sorted}
use lib.IntN.{ℤ}
use Rattle.mc_told.specs.declared.moved.Moved.{Moved}
use Rattle.mc_told.proofs.KeptRows.{none_kept}
use Rattle.mc_told.proofs.encoded_moves.EncodedMoves.new.Goals as goal

pub returns : goal.returns
returns c =
    ap (λ (es : List (ℤ × Moved)). from_sorted {R = int_cmp} es) c.new.ensures.items ∙ none_kept
