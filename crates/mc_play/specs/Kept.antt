-- What contracts see of a game as it is kept: the game of the definitions, the cells at the last
-- settling, and what is kept beside them for speed alone.
use Rattle.std.specs.Prelude.{◌≡◌, ◌⊎◌, ℕ, ◌≤◌, ◌<◌, ◌+◌, List, [], Option, Some, None}
use Rattle.std.specs.List.{AllByRecursion}
use Rattle.std.specs.FinMap.{FinMap, empty, get}
use Rattle.std.specs.FinSet as set
use lib.IntN.{ℤ, pos, negsuc}
use lib.Signed.{◌≤ℤ◌}
use Rattle.mc_fields.specs.declared.position.Spot.{Spot}
use Rattle.mc_slots.specs.declared.pile.Pile.{Pile}
use Rattle.mc_slots.specs.Chest.{IsChest}
use Rattle.mc_land.specs.Places.{IsPlace, Key, key_cmp, place_cmp}
use Rattle.mc_land.specs.Land.{LandValue}
use Rattle.mc_entities.specs.declared.entity.Entity.{Entity}
use Rattle.mc_entities.specs.Folk.{FolkState, FolkValue}
use Rattle.mc_land.specs.declared.terrain.Terrain.{Terrain}
use Rattle.mc_model.specs.declared.player.Player.{Player}
use Rattle.mc_model.specs.declared.settings.Settings.{Settings}
use Rattle.mc_model.specs.Game.{Game, new_game, of_player}
use Rattle.mc_model.specs.Delta.{chat_packet}
use Rattle.mc_model.specs.Mobs.{mobs_at}
use Rattle.mc_sending.specs.Sending.{IsClear}

-- ---- parts

-- how many players may be in play, and how large a view may be
pub record LimitsValue : Type 0 where
  pub players : ℕ
  pub cap : ℕ

-- A player's place is within 30,000,000 blocks on x and z, and from 64 below to 4,096 above on y. A
-- dropped item may lie half a block further east and south.
pub record IsNear (spot : Spot) : Type 0 where
  pub x_low : negsuc 959999999 ≤ℤ spot.x
  pub x_high : spot.x ≤ℤ pos 960000016
  pub y_low : negsuc 2047 ≤ℤ spot.y
  pub y_high : spot.y ≤ℤ pos 131072
  pub z_low : negsuc 959999999 ≤ℤ spot.z
  pub z_high : spot.z ≤ℤ pos 960000016

-- each entity stands at such a spot
abbrev pub AreNear : List Entity → Type 0
AreNear entities = AllByRecursion (λ (e : Entity). IsNear e.spot) entities

-- so many mobs stand where they begin, and nobody was told of them
abbrev pub mobs_begun : Terrain → ℕ → FolkState
mobs_begun terrain n = record { entities = mobs_at terrain n; told = []; given = n }

-- each edit is air, or the state of a block with an id
abbrev pub AreStates : FinMap key_cmp ℕ → Type 0
AreStates edits = (key : Key) (state : ℕ) → get edits key ≡ Some state →
    ((state ≡ 0) ⊎ (16 ≤ state)) × (state < 4096)

-- each chest stands in a column of the world, and has so many piles of items that the world holds
abbrev pub AreStocked : FinMap key_cmp (List Pile) → Type 0
AreStocked chests = (key : Key) (piles : List Pile) → get chests key ≡ Some piles →
    IsPlace key.0 × IsChest piles

-- a packet of chat can carry a text
abbrev pub IsClearLine : List ℕ → Type 0
IsClearLine text = IsClear (chat_packet text)

-- ---- the game

-- the columns that are ready to be looked at, where each entity was at the last settling, and for
-- how many more there are places
pub record Aside : Type 0 where
  pub ready : set.FinSet place_cmp
  pub told : List (ℤ × Spot)
  pub reserve : ℕ

pub record GameValue : Type 0 where
  pub game : Game
  -- the edits at the last settling
  pub settled : FinMap key_cmp ℕ
  pub aside : Aside

-- a game begins with so many mobs: no cell is settled, no column is ready, and nobody was told of
-- an entity
pub record IsNew (settings : Settings) (mobs : ℕ) (v : GameValue) : Type 0 where
  pub game : v.game ≡ new_game settings mobs
  pub settled : v.settled ≡ empty
  pub ready : v.aside.ready ≡ set.empty
  pub told : v.aside.told ≡ []

-- another game, of which nothing is settled yet
abbrev pub played : GameValue → Game → Aside → GameValue
played v g aside = record { game = g; settled = v.settled; aside = aside }

-- its land
abbrev pub land_of : GameValue → LandValue
land_of v = record {
  terrain = v.game.settings.terrain;
  edits = v.game.edits;
  settled = v.settled;
  chests = v.game.chests;
  ready = v.aside.ready;
}

-- its players and dropped items
abbrev pub folk_of : GameValue → FolkValue
folk_of v = record {
  state = record { entities = v.game.entities; told = v.aside.told; given = v.game.eids };
  reserve = v.aside.reserve;
}

-- the same columns are ready, and of the places for entities one at most was taken
abbrev pub TakesOne : Aside → Aside → Type 0
TakesOne old new = (new.ready ≡ old.ready) × (old.reserve ≤ new.reserve + 1)

-- ---- what a player does

-- a game after what the player of a connection does to it, if there is one
abbrev pub by_player : ℕ → (Player → Game → Game) → Game → Game
by_player k f g = of_player g (λ (p : Player). f p g) (get g.players k)

-- or none where that may not be
abbrev pub try_of : Game → (Player → Game → Option Game) → Option Player → Option Game
try_of g f None = Some g
try_of g f (Some p) = f p g

abbrev pub try_player : ℕ → (Player → Game → Option Game) → Game → Option Game
try_player k f g = try_of g f (get g.players k)
