use Rattle.std.proofs.Common.{◌≡◌, List, [], ◌∷◌, true, refl, ap, ◌∙◌}
use Rattle.std.specs.List.{filter}
use Rattle.mc_column.specs.Places.{Place}
use Rattle.mc_view.proofs.columns.Columns.all.Goals as goal

-- a test that all pass leaves all
all_pass : (places : List Place) → filter (λ place. true) places ≡ places
all_pass [] = refl
all_pass (place ∷ places) = ap (λ (ps : List Place). place ∷ ps) (all_pass places)

pub returns : goal.returns
returns c = all_pass c.of.result ∙ c.of.ensures
