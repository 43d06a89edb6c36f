use Rattle.std.proofs.Common.{◌≡◌, List, ◌∙◌, ap, sym, subst}
use Rattle.std.specs.Ordering.{int_cmp}
use Rattle.std.specs.FinMap.{from_sorted}
use lib.IntN.{ℤ}
use Rattle.mc_told.specs.declared.spawned.Spawned.{Spawned}
use Rattle.mc_told.specs.EntityFrames.{AreEncoded}
use Rattle.mc_told.proofs.EntityFrames.{none_encoded}
use Rattle.mc_told.proofs.KeptRows.{none_kept}
use Rattle.mc_told.proofs.encoded_entities.EncodedEntities.new.Goals as goal

pub returns-clause-is : goal.returns-clause-is
returns-clause-is c =
    let spawns : from_sorted {R = int_cmp} c.new-2.result.items ≡ _ =
    ap (λ (es : List (ℤ × Spawned)). from_sorted {R = int_cmp} es) c.new-2.ensures.items ∙ none_kept in
    λ i. record { moves = c.new.ensures i; spawns = spawns i }

pub returns-clause-frames : goal.returns-clause-frames
returns-clause-frames c = subst AreEncoded (sym (returns-clause-is c)) none_encoded
