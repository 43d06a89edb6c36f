use Rattle.std.proofs.Common.{List, [], ℕ, sym, subst}
use Rattle.std.specs.FinMap.{from_entries}
use Rattle.mc_land.specs.Places.{Place}
use Rattle.mc_loads.specs.ColumnFrames.{AreColumnFrames}
use Rattle.mc_loads.proofs.ColumnFrames.{none_encoded}
use Rattle.mc_loads.proofs.encoded_columns.EncodedColumns.new.Goals as goal

pub returns-clause-frames : goal.returns-clause-frames
returns-clause-frames c = λ land.
    let P : List (Place × List ℕ) → List (Place × List ℕ) → Type 0 = λ es fs.
    AreColumnFrames land (record { loads = from_entries es; changes = from_entries fs }) in
    subst (λ es. P es c.new-2.result.entries) (sym c.new.ensures.empty)
    (subst (λ fs. P [] fs) (sym c.new-2.ensures.empty) (none_encoded land))
