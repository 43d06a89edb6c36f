-- Which columns a server keeps ready: those with an edit, and those that a client in play sees.
-- Rules of this project.
use Rattle.std.specs.Prelude.{◌≡◌, ◌||◌, Bool, true, List, map}
use Rattle.std.specs.FinSet as set
use Rattle.mc_land.specs.Places.{IsPlace, Place}
use Rattle.mc_land.specs.Shed.{View, is_edited, is_seen}
use Rattle.mc_model.specs.declared.player.Player.{Player}
use Rattle.mc_model.specs.Game.{Game, players_of}
use Rattle.mc_play.specs.Kept.{GameValue}
use Rattle.mc_showing.specs.Around.{reach_of}
use Rattle.mc_events.specs.declared.input.Input.{Input}
use Rattle.mc_events.specs.declared.input.Input.TheVariants.{Tick}
use Rattle.mc_events.specs.Served.{ServerValue}

-- the views of those in play
abbrev pub views_of : Game → List View
views_of g = map (λ (p : Player). reach_of g p) (players_of g)

-- a cell of the column is not the terrain's, or a client in play sees the column
abbrev pub is_needed : GameValue → Place → Bool
is_needed v place = is_edited v.game.edits place || is_seen (views_of v.game) place

-- each ready column is needed, and one that was ready before and is needed is ready
pub record Sheds (old new : GameValue) : Type 0 where
  pub only : (place : Place) → set.contains new.aside.ready place ≡ true →
      is_needed new place ≡ true
  pub keeps : (place : Place) → IsPlace place → set.contains old.aside.ready place ≡ true →
      is_needed new place ≡ true → set.contains new.aside.ready place ≡ true

-- a tick sheds
abbrev pub ShedsAt : Input → ServerValue → ServerValue → Type 0
ShedsAt Tick old new = Sheds old.game new.game
ShedsAt other old new = Unit {0}
