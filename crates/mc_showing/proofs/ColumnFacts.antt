-- The columns of a view that is a player's are those that the player is to be shown.
use Rattle.std.proofs.Common.{◌≡◌, true, List, [], ◌∷◌, Option, refl, ap, arith, ◌∙◌}
use Rattle.std.proofs.lemmas.Bool.Decides.{nat_tests}
use Rattle.std.specs.Prelude.{not}
use Rattle.std.specs.List.{filter}
use Rattle.mc_land.specs.Places.{Place}
use Rattle.mc_view.specs.declared.view_set.ViewSet.{ViewSet}
use Rattle.mc_view.specs.Sets.{all_of, is_within}
use Rattle.mc_loads.specs.Columns.{entered_of}
use Rattle.mc_flush.specs.Seeing.{MarkValue, loaded}
use Rattle.mc_model.specs.declared.player.Player.{Player}
use Rattle.mc_model.specs.Game.{Game, view_in}
use Rattle.mc_view.specs.Views.{view_of}
use Rattle.mc_showing.specs.Around.{IsAround, new_columns}

-- a test that all pass
all_pass : (places : List Place) → filter (λ (place : Place). true) places ≡ places
all_pass [] = refl
all_pass (place ∷ places) = ap (λ (ps : List Place). place ∷ ps) (all_pass places)

-- those that an old view lacks
entered_are : (old : Option ViewSet) (view : ViewSet) →
    entered_of old view ≡ filter (λ (place : Place). not (is_within old place)) (all_of view)
entered_are old view = grind (arith, nat_tests, all_pass (all_of view))

pub around_columns : (g : Game) (p : Player) (view : ViewSet) → IsAround g p view →
    all_of view ≡ view_in g p
around_columns g p view is = λ i. view_of (is.middle i) (is.d i)

pub loaded_are : (g : Game) (p : Player) (mark : MarkValue) (view : ViewSet) → IsAround g p view →
    loaded mark view ≡ new_columns g p mark
loaded_are g p mark view is =
    entered_are mark.view view
    ∙ ap (filter (λ (place : Place). not (is_within mark.view place)))
    (around_columns g p view is)
