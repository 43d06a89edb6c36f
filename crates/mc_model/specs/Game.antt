-- The game: all that is played, apart from the connections. The land, the entities, what each name
-- carries, what was said, and the players in play by the numbers of their connections. Plain lists
-- and finite maps. Rules of this project.
use Rattle.std.specs.Prelude.{ℕ, ◌≤◌, Bool, List, [], Option, Some, None, unwrap_or, ◌-◌, min}
use Rattle.std.specs.Prelude.{is_some}
use Rattle.std.specs.Option.{option_and_then}
use Rattle.std.specs.Ordering.{nat_cmp}
use Rattle.std.specs.FinMap.{FinMap, empty, get, values}
use Rattle.mc_fields.specs.declared.position.Cell.{Cell}
use Rattle.mc_fields.specs.declared.position.Spot.{Spot}
use Rattle.mc_slots.specs.declared.pile.Pile.{Pile}
use Rattle.mc_column.specs.Cells.{ColumnValue}
use Rattle.mc_land.specs.Places.{Place, key_cmp}
use Rattle.mc_land.specs.Land.{states_of, biomes_of}
use Rattle.mc_windows.specs.Pack.{PackValue, kit_pack}
use Rattle.mc_entities.specs.declared.entity.Entity.{Entity}
use Rattle.mc_entities.specs.declared.entity.TheConstants.{DROPPED_MAX, EID_MAX}
use Rattle.mc_entities.specs.Folk.{dropped_in}
use Rattle.mc_view.specs.Views.{view_of, column_of_spot, is_in_view, view_size}
use Rattle.mc_model.specs.declared.player.Player.{Player}
use Rattle.mc_model.specs.declared.settings.Settings.{Settings}
use Rattle.mc_model.specs.Things.{chest_of_cell, in_hand, state_of_cell}
use Rattle.mc_model.specs.Spots.{spot_in}
use Rattle.mc_model.specs.Mobs.{mobs_at}
use Rattle.mc_model.specs.Maps.{name_cmp}

-- the numbers that a world can begin with
pub record AreSettings (most cap : ℕ) : Type 0 where
  pub some : 1 ≤ most
  pub few : most ≤ 50
  pub wide : 2 ≤ cap
  pub near : cap ≤ 8

pub record Game : Type 0 where
  -- the settings that it began with
  pub settings : Settings
  -- the ticks that came
  pub age : ℕ
  -- the cells whose state is not the terrain's
  pub edits : FinMap key_cmp ℕ
  -- the piles of each chest, at its cell
  pub chests : FinMap key_cmp (List Pile)
  -- the mobs, the players in play and the dropped items, by rising number
  pub entities : List Entity
  -- how many entity numbers were given
  pub eids : ℕ
  -- the pack of each name that was ever in play; a name that is not in play now has its pack kept
  pub packs : FinMap name_cmp PackValue
  -- what was said since the last tick, as texts
  pub lines : List (List ℕ)
  -- those in play, by the numbers of their connections
  pub players : FinMap nat_cmp Player

-- there are so many mobs, and nobody came yet
abbrev pub new_game : Settings → ℕ → Game
new_game settings mobs = record {
  settings = settings;
  age = 0;
  edits = empty;
  chests = empty;
  entities = mobs_at settings.terrain mobs;
  eids = mobs;
  packs = empty;
  lines = [];
  players = empty;
}

-- those in play, in the order of their connections
abbrev pub players_of : Game → List Player
players_of g = values g.players

-- a game after what a player does to it, if there is one
abbrev pub of_player : Game → (Player → Game) → Option Player → Game
of_player g f None = g
of_player g f (Some p) = f p

-- the state of a cell
abbrev pub state_in : Game → Cell → ℕ
state_in g cell = state_of_cell g.settings.terrain g.edits cell.x cell.y cell.z

-- the piles of the chest at a cell, if there is one
abbrev pub chest_at : Game → Cell → Option (List Pile)
chest_at g cell = chest_of_cell g.chests cell.x cell.y cell.z

-- those of the chest that a player is shown, if it is shown one
abbrev pub chest_of : Game → Player → Option (List Pile)
chest_of g p = option_and_then (chest_at g) p.chest

-- how many more dropped items may lie
abbrev pub room_in : Game → ℕ
room_in g = min (DROPPED_MAX - dropped_in g.entities) (EID_MAX - g.eids)

-- where a player is, and how it looks, as its entity does: all that asks for it asks here
abbrev pub spot_of : Game → Player → Spot
spot_of g p = spot_in g.settings.terrain g.entities p.eid

-- a name is known that was ever in play
abbrev pub is_known : Game → List ℕ → Bool
is_known g name = is_some (get g.packs name)

-- what a name carries; one that comes for the first time, the kit
abbrev pub pack_named : Game → List ℕ → PackValue
pack_named g name = unwrap_or (get g.packs name) kit_pack

-- what a player carries, and what it has in its hand
abbrev pub pack_of : Game → Player → PackValue
pack_of g p = pack_named g p.name

abbrev pub held_by : Game → Player → Pile
held_by g p = in_hand (pack_of g p) p.hand

-- the blocks and biomes of a column
abbrev pub column_in : Game → Place → ColumnValue
column_in g place = record {
  states = states_of g.settings.terrain g.edits place;
  biomes = biomes_of g.settings.terrain place;
}

-- the columns of a player's view, and whether one is of them
abbrev pub view_in : Game → Player → List Place
view_in g p = view_of (column_of_spot (spot_of g p)) (view_size g.settings.cap p.view_byte)

abbrev pub sees : Game → Player → Place → Bool
sees g p place =
    is_in_view (column_of_spot (spot_of g p)) (view_size g.settings.cap p.view_byte) place

-- an entity stands in one of them
abbrev pub is_in_sight : Game → Player → Entity → Bool
is_in_sight g p e = sees g p (column_of_spot e.spot)
