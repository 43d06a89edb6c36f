-- The columns around a player that its client is to be shown, and those of them that a mark says
-- were not shown. Rules of this project.
use Rattle.std.specs.Prelude.{◌≡◌, not, List}
use Rattle.std.specs.List.{filter}
use Rattle.mc_land.specs.Places.{Place}
use Rattle.mc_land.specs.Shed.{View}
use Rattle.mc_view.specs.Sets.{is_within}
use Rattle.mc_view.specs.Views.{column_of_spot, view_size}
use Rattle.mc_view.specs.declared.view_set.ViewSet.{ViewSet}
use Rattle.mc_model.specs.declared.player.Player.{Player}
use Rattle.mc_model.specs.Game.{Game, spot_of, view_in}
use Rattle.mc_flush.specs.Seeing.{MarkValue}

-- a set of columns is the view of a player
pub record IsAround (g : Game) (p : Player) (view : ViewSet) : Type 0 where
  pub middle : (view.cx, view.cz) ≡ column_of_spot (spot_of g p)
  pub d : view.d ≡ view_size g.settings.cap p.view_byte

-- the columns of a player's view that a client with such a mark was not shown
abbrev pub new_columns : Game → Player → MarkValue → List Place
new_columns g p mark = filter (λ (place : Place). not (is_within mark.view place)) (view_in g p)

-- and those of them that it was shown
abbrev pub kept_columns : Game → Player → MarkValue → List Place
kept_columns g p mark = filter (is_within mark.view) (view_in g p)

-- the numbers of the middle column of a player's view, and how many columns it reaches on each axis
abbrev pub reach_of : Game → Player → View
reach_of g p = (
  (column_of_spot (spot_of g p)).0,
  (column_of_spot (spot_of g p)).1,
  view_size g.settings.cap p.view_byte,
)
