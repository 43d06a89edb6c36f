-- What is ready in a game that gave up the columns that no player is to be shown.
use Rattle.std.proofs.Common.{◌≡◌, Bool, true, ◌&&◌, ◌||◌, List, map, sym, ap, ◌∙◌}
use Rattle.std.specs.FinSet as set
use Rattle.mc_land.specs.Land.{LandValue}
use Rattle.mc_land.specs.Places.{IsPlace, Place}
use Rattle.mc_land.specs.Shed.{View, is_edited, is_seen, shed_land, stays}
use Rattle.mc_land.proofs.Orders.{exact_places}
use Rattle.mc_loads.specs.Columns.{IsReady}
use Rattle.mc_model.proofs.FitsText.{both_true}
use Rattle.mc_model.specs.Game.{Game, players_of}
use Rattle.mc_play.specs.Kept.{GameValue, land_of}
use Rattle.mc_showing.specs.Around.{reach_of}

-- a column has an edit, or a player is to be shown it
abbrev is_wanted : Game → Place → Bool
is_wanted g place = is_edited g.edits place || is_seen (map (reach_of g) (players_of g)) place

-- of a game that gives up the columns that no player is to be shown
module _ (mid new : GameValue) (views : List View)
    (shed : land_of new ≡ shed_land (land_of mid) views) (game : new.game ≡ mid.game)
    (given : views ≡ map (reach_of mid.game) (players_of mid.game)) where
  -- a column is ready exactly where it was, and is wanted
  pub shed_ready : (place : Place) → set.contains new.aside.ready place ≡
      (set.contains mid.aside.ready place && is_wanted new.game place)
  shed_ready place =
      ap (λ (land : LandValue). set.contains land.ready place) shed
      ∙ set.contains-retain mid.aside.ready (stays (land_of mid) views) place
      (λ x tie. ap (stays (land_of mid) views) (sym (exact_places place x tie)))
      ∙ ap (λ (vs : List View). set.contains mid.aside.ready place
      && (is_edited mid.game.edits place || is_seen vs place)) given
      ∙ ap (λ (g : Game). set.contains mid.aside.ready place && is_wanted g place) (sym game)

  pub shed_only : (place : Place) → set.contains new.aside.ready place ≡ true →
      is_wanted new.game place ≡ true
  shed_only place there = (both_true (set.contains mid.aside.ready place)
      (is_wanted new.game place) (sym (shed_ready place) ∙ there)).1

  -- one that was ready in a game of which all stayed so until then
  pub shed_keeps : (old : GameValue) →
      ((place : Place) → IsReady (land_of old) place → IsReady (land_of mid) place) →
      (place : Place) → IsPlace place → set.contains old.aside.ready place ≡ true →
      is_wanted new.game place ≡ true → set.contains new.aside.ready place ≡ true
  shed_keeps old grown place near there wanted =
      let kept = grown place (record { near = near; ready = there }) in
      shed_ready place ∙ ap (λ b. b && is_wanted new.game place) kept.ready ∙ wanted
