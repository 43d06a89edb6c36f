-- What holds of a game along every run: whom numbers and names are of, and that a player is one
-- entity, which holds what its pack has at its hand. Rules of this project.
use Rattle.std.specs.Prelude.{◌≡◌, ◌≢◌, ◌<◌, ◌≤◌, ◌==◌, ℕ, Bool, true, false, not, List, Option}
use Rattle.std.specs.Prelude.{Some, None, is_some}
use Rattle.std.specs.Ordering.{nat_cmp}
use Rattle.std.specs.FinMap.{FinMap, get}
use lib.IntN.{pos}
use Rattle.mc_fields.specs.declared.position.Cell.{Cell}
use Rattle.mc_fields.specs.declared.position.Spot.{Spot}
use Rattle.mc_slots.specs.declared.pile.Pile.{Pile}
use Rattle.mc_slots.specs.Chest.{IsChest}
use Rattle.mc_land.specs.Land.{is_chest}
use Rattle.mc_land.specs.Places.{Key}
use Rattle.mc_windows.specs.declared.pack.TheConstants.{LAST_WINDOW}
use Rattle.mc_windows.specs.Pack.{PackValue, IsPack}
use Rattle.mc_entities.specs.declared.entity.Entity.{Entity}
use Rattle.mc_entities.specs.declared.entity.EntityKind.{EntityKind}
use Rattle.mc_entities.specs.declared.entity.EntityKind.TheVariants as kinds
use Rattle.mc_entities.specs.Numbers.{Rise, numbered}
use Rattle.mc_entities.specs.Folk.{eid_of}
use Rattle.mc_model.specs.declared.player.Player.{Player}
use Rattle.mc_model.specs.Names.{offline_uuid}
use Rattle.mc_model.specs.Step.{is_new}
use Rattle.mc_model.specs.Things.{in_hand}
use Rattle.mc_model.specs.Stages.{is_play}
use Rattle.mc_model.specs.Maps.{name_cmp}
use Rattle.mc_model.specs.Game.{Game, chest_at, pack_of, state_in}
use Rattle.mc_model.specs.Reach.{is_in_world}
use Rattle.mc_model.specs.Fitting.{Told}
use Rattle.mc_model.specs.Link.{Link}
use Rattle.mc_model.specs.World.{World}

-- the entity of a player that carries a pack and stands at a spot
abbrev pub body_of : Player → PackValue → Spot → Entity
body_of p pack spot = record {
  eid = pos p.eid;
  kind = kinds.Player p.uuid (in_hand pack p.hand);
  spot = spot;
}

-- A player's hand is on the hotbar, its number was given, its identifier is that of its name, and
-- under its number there is just its entity.
pub record IsOwn (entities : List Entity) (eids : ℕ) (packs : FinMap name_cmp PackValue)
    (p : Player) : Type 0 where
  pub hand : p.hand < 9
  pub given : p.eid ≤ eids
  pub uuid : p.uuid ≡ offline_uuid p.name
  pub pack : PackValue
  pub carries : get packs p.name ≡ Some pack
  pub spot : Spot
  pub body : numbered eid_of (pos p.eid) entities ≡ Some (body_of p pack spot)

-- two players have neither a number nor an identifier in common
pub record AreApart (p q : Player) : Type 0 where
  pub eid : p.eid ≢ q.eid
  pub uuid : p.uuid ≢ q.uuid

-- what players have for an entity
abbrev pub is_body : EntityKind → Bool
is_body (kinds.Player uuid held) = true
is_body other = false

-- a number is of a player in play
pub record IsPlayed (players : FinMap nat_cmp Player) (n : ℕ) : Type 0 where
  pub k : ℕ
  pub player : Player
  pub plays : get players k ≡ Some player
  pub number : player.eid ≡ n

pub record IsWhole (players : FinMap nat_cmp Player) (entities : List Entity) (eids : ℕ)
    (packs : FinMap name_cmp PackValue) : Type 0 where
  pub own : (k : ℕ) (p : Player) → get players k ≡ Some p → IsOwn entities eids packs p
  pub apart : (j k : ℕ) (p q : Player) → get players j ≡ Some p → get players k ≡ Some q → j ≢ k →
      AreApart p q
  -- of piles that a world holds
  pub piles : (name : List ℕ) (pack : PackValue) → get packs name ≡ Some pack →
      IsPack pack.slots pack.cursor
  -- no entity has a number that was not given
  pub fresh : (n : ℕ) → eids < n → numbered eid_of (pos n) entities ≡ None
  -- the numbers of entities rise, so each stands once
  pub rise : Rise eid_of (pos 0) entities (pos eids)
  -- each entity of a player is of one in play
  pub bodies : (n : ℕ) (e : Entity) → numbered eid_of (pos n) entities ≡ Some e →
      is_body e.kind ≡ true → IsPlayed players n

abbrev pub Good : Game → Type 0
Good g = IsWhole g.players g.entities g.eids g.packs

-- ---- chests

-- Each chest has so many piles of items that the world holds, and there is one just where the land
-- has one.
pub record AreChests (g : Game) : Type 0 where
  pub chests : (key : Key) (piles : List Pile) → get g.chests key ≡ Some piles → IsChest piles
  pub stand : (cell : Cell) → is_in_world cell ≡ true →
      is_some (chest_at g cell) ≡ is_chest (state_in g cell)

-- ---- windows

-- A player is shown a chest just where its pack's window has a number, and the chest is there.
pub record IsShown (g : Game) (p : Player) : Type 0 where
  pub number : is_some p.chest ≡ not ((pack_of g p).window == 0)
  pub stands : (cell : Cell) → p.chest ≡ Some cell → is_some (chest_at g cell) ≡ true

-- So it is of all in play, the numbers of windows are up to 100, and who is not in play is shown
-- none.
pub record AreShown (g : Game) : Type 0 where
  pub shown : (k : ℕ) (p : Player) → get g.players k ≡ Some p → IsShown g p
  pub numbers : (name : List ℕ) (pack : PackValue) → get g.packs name ≡ Some pack →
      pack.window ≤ LAST_WINDOW
  pub kept : (name : List ℕ) (pack : PackValue) → get g.packs name ≡ Some pack →
      ((k : ℕ) (p : Player) → get g.players k ≡ Some p → p.name ≢ name) → pack.window ≡ 0

-- ---- a world

-- whether a connection is in play; one that is not there is not
abbrev pub in_play : Option Link → Bool
in_play None = false
in_play (Some l) = is_play l.stage

-- A game is good, and so are its chests and windows; packets can tell what is in it; it has players
-- exactly for the connections in play, and no connection has a number that may join next.
pub record GoodWorld (w : World) : Type 0 where
  pub game : Good w.game
  pub chests : AreChests w.game
  pub windows : AreShown w.game
  pub told : Told w.game
  pub plays : (k : ℕ) → is_some (get w.game.players k) ≡ in_play (get w.links k)
  pub fresh : (k : ℕ) → is_new k w.last ≡ true → get w.links k ≡ None
