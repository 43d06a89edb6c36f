-- Parts of a game: the state of a cell, where an entity stands and what it holds, and what a pack
-- has in a hand. Rules of this project.
use Rattle.std.specs.Prelude.{ℕ, ◌+◌, List, nat_lt, slice_set, Option, None, if◌then◌else◌}
use Rattle.std.specs.FinMap.{FinMap, get, insert}
use lib.IntN.{ℤ, pos, negsuc}
use Rattle.mc_fields.specs.declared.position.Spot.{Spot}
use Rattle.mc_slots.specs.declared.pile.Item.{Item}
use Rattle.mc_slots.specs.declared.pile.Pile.{Pile}
use Rattle.mc_slots.specs.Chest.{pile_at}
use Rattle.mc_land.specs.declared.terrain.Terrain.{Terrain}
use Rattle.mc_land.specs.Places.{key_cmp, key_of}
use Rattle.mc_land.specs.Land.{state_at}
use Rattle.mc_windows.specs.declared.pack.TheConstants.{MAIN_PILES}
use Rattle.mc_windows.specs.Pack.{PackValue}
use Rattle.mc_entities.specs.declared.entity.Entity.{Entity}
use Rattle.mc_entities.specs.declared.entity.EntityKind.{EntityKind}
use Rattle.mc_entities.specs.declared.entity.EntityKind.TheVariants as kinds

-- ---- cells

-- the state of a cell where some are changed: air above and below the world
abbrev pub state_of_cell : Terrain → FinMap key_cmp ℕ → ℤ → ℤ → ℤ → ℕ
state_of_cell terrain edits x (pos y) z =
    if nat_lt y 256 then state_at terrain edits (key_of x y z) else 0
state_of_cell terrain edits x (negsuc y) z = 0

-- the piles of the chest at a cell: none above and below the world
abbrev pub chest_of_cell : FinMap key_cmp (List Pile) → ℤ → ℤ → ℤ → Option (List Pile)
chest_of_cell chests x (pos y) z = if nat_lt y 256 then get chests (key_of x y z) else None
chest_of_cell chests x (negsuc y) z = None

-- and other piles there
abbrev pub chest_put : FinMap key_cmp (List Pile) → ℤ → ℤ → ℤ → List Pile →
    FinMap key_cmp (List Pile)
chest_put chests x (pos y) z piles = insert chests (key_of x y z) piles
chest_put chests x (negsuc y) z piles = chests

-- ---- entities

-- one stands and looks so
abbrev pub standing : Spot → Entity → Entity
standing spot e = record e { spot = spot }

-- a player holds a pile in its hand
abbrev pub hand_of : Pile → EntityKind → EntityKind
hand_of pile (kinds.Player uuid held) = kinds.Player uuid pile
hand_of pile (kinds.Dropped item born) = kinds.Dropped item born
hand_of pile kinds.Mob = kinds.Mob

abbrev pub holding : Pile → Entity → Entity
holding pile e = record e { kind = hand_of pile e.kind }

-- what lies there is another item, which was dropped when the first was
abbrev pub kind_of_item : Item → EntityKind → EntityKind
kind_of_item item (kinds.Player uuid held) = kinds.Player uuid held
kind_of_item item (kinds.Dropped old born) = kinds.Dropped item born
kind_of_item item kinds.Mob = kinds.Mob

abbrev pub lying_as : Item → Entity → Entity
lying_as item e = record e { kind = kind_of_item item e.kind }

-- ---- hands

-- the pile at a place of the hotbar, from 0 to 8, which a hand is on
abbrev pub in_hand : PackValue → ℕ → Pile
in_hand pack hand = pile_at pack.slots (MAIN_PILES + hand)

-- and another pile there
abbrev pub with_hand : Pile → ℕ → PackValue → PackValue
with_hand pile hand pack = record pack { slots = slice_set pack.slots (MAIN_PILES + hand) pile }
