-- Deeds: the small changes of a game of which all that players do is made. Nothing else changes a
-- game, but a tick that passes (`Tick`). Rules of this project.
use Rattle.std.specs.Prelude.{ℕ, ◌+◌, List, [], ◌∷◌, ◌++◌, length, Option, None, unsigned_abs}
use Rattle.std.specs.FinMap.{insert, remove}
use lib.IntN.{ℤ, pos}
use Rattle.mc_fields.specs.declared.position.Cell.{Cell}
use Rattle.mc_fields.specs.declared.position.Spot.{Spot}
use Rattle.mc_slots.specs.declared.pile.Item.{Item}
use Rattle.mc_slots.specs.declared.pile.Pile.{Pile}
use Rattle.mc_slots.specs.declared.pile.Pile.TheVariants.{Empty, Full}
use Rattle.mc_land.specs.Land.{chests_after, edited}
use Rattle.mc_land.specs.Places.{key_of}
use Rattle.mc_windows.specs.Pack.{PackValue}
use Rattle.mc_entities.specs.declared.entity.EntityKind.{EntityKind}
use Rattle.mc_entities.specs.declared.entity.EntityKind.TheVariants as kinds
use Rattle.mc_entities.specs.Numbers.{changed, without}
use Rattle.mc_entities.specs.Folk.{eid_of}
use Rattle.mc_model.specs.declared.notes.Notes.{Notes}
use Rattle.mc_model.specs.declared.player.Player.{Player}
use Rattle.mc_model.specs.Names.{offline_uuid}
use Rattle.mc_model.specs.Notes.{no_notes}
use Rattle.mc_model.specs.Things.{chest_put, in_hand, holding, lying_as, standing}
use Rattle.mc_model.specs.Spots.{spawn_spot}
use Rattle.mc_model.specs.Maps.{modify}
use Rattle.mc_model.specs.Game.{Game, pack_named, pack_of, state_in}

-- ---- of a player

-- the player of a connection is another
abbrev pub with_player : ℕ → (Player → Player) → Game → Game
with_player k f g = record g { players = modify k f g.players }

-- something is noted for its client
abbrev pub noting : (Notes → Notes) → ℕ → Game → Game
noting f k g = with_player k (λ (p : Player). record p { notes = f p.notes }) g

-- it is shown the window of the chest at a cell, or its own
abbrev pub watching : Option Cell → ℕ → Game → Game
watching chest k g = with_player k (λ (p : Player). record p { chest = chest }) g

-- it carries another pack, and its entity holds what that has at its hand
abbrev pub repack_of : Player → PackValue → Game → Game
repack_of p pack g = record g {
  packs = modify p.name (λ (old : PackValue). pack) g.packs;
  entities = changed eid_of (pos p.eid) (holding (in_hand pack p.hand)) g.entities;
}

-- its hand is on another place of the hotbar, and its entity holds what is there
abbrev pub rehand_of : ℕ → Player → ℕ → Game → Game
rehand_of k p hand g =
    record (with_player k (λ (q : Player). record q { hand = hand }) g) {
      entities =
          changed eid_of (pos p.eid) (holding (in_hand (pack_of g p) hand)) g.entities;
    }

-- it stands and looks so
abbrev pub stand_of : Player → Spot → Game → Game
stand_of p spot g = record g {
  entities = changed eid_of (pos p.eid) (standing spot) g.entities;
}

-- ---- of all

-- one more entity, which has the next number
abbrev pub spawned : EntityKind → Spot → Game → Game
spawned kind spot g = record g {
  entities = g.entities ++ record { eid = pos (g.eids + 1); kind = kind; spot = spot } ∷ [];
  eids = g.eids + 1;
}

-- an item lies at a spot
abbrev pub thrown : Item → Spot → Game → Game
thrown item spot g = spawned (kinds.Dropped item g.age) spot g

-- what lies under a number is so much from now on; it goes where that is nothing
abbrev pub lessened : ℤ → Pile → Game → Game
lessened eid Empty g = record g { entities = without eid_of eid g.entities }
lessened eid (Full item) g =
    record g { entities = changed eid_of eid (lying_as item) g.entities }

-- A cell that is inside the world has a state. An empty chest is there where it became one, and
-- where it ceased to be one, none.
abbrev pub with_state : Cell → ℕ → Game → Game
with_state cell state g = record g {
  edits =
      edited g.settings.terrain g.edits (key_of cell.x (unsigned_abs cell.y) cell.z) state;
  chests = chests_after g.chests (key_of cell.x (unsigned_abs cell.y) cell.z)
      (state_in g cell) state;
}

-- other piles lie in the chest at a cell
abbrev pub restocked : Cell → List Pile → Game → Game
restocked cell piles g = record g { chests = chest_put g.chests cell.x cell.y cell.z piles }

-- something is said to all
abbrev pub said : List ℕ → Game → Game
said line g = record g { lines = g.lines ++ line ∷ [] }

-- ---- coming and going

-- A player with an entity number, whose hand is on the first place of the hotbar. So many lines had
-- been said since the last tick.
abbrev pub new_player : ℕ → List ℕ → ℕ → Player
new_player eid name since = record {
  name = name;
  uuid = offline_uuid name;
  eid = eid;
  view_byte = pos 2;
  hand = 0;
  since = since;
  chest = None;
  notes = no_notes;
}

-- A player enters under a name, with the next entity number. Its entity stands where players enter,
-- and it carries what is kept of its name, or the kit.
abbrev pub enter_as : ℕ → List ℕ → Game → Game
enter_as k name g =
    record (spawned (kinds.Player (offline_uuid name) (in_hand (pack_named g name) 0))
    (spawn_spot g.settings.terrain) g) {
      packs = insert g.packs name (pack_named g name);
      players = insert g.players k (new_player (g.eids + 1) name (length g.lines));
    }

-- a player goes, and its entity; what it carries is kept
abbrev pub go_of : ℕ → Player → Game → Game
go_of k p g = record g {
  entities = without eid_of (pos p.eid) g.entities;
  players = remove g.players k;
}
