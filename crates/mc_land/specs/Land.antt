-- The land as contracts see it: a terrain, and what was changed of it. All of it is finite, and the
-- endless world is what it stands for: a cell has the state that it was set to, or else the
-- terrain's.
use Rattle.std.specs.Prelude.{ℕ, ◌/◌, ◌%◌, ◌==◌, Bool, List, map, if◌then◌else◌, nat_lt}
use Rattle.std.specs.Option.{unwrap_or}
use Rattle.std.specs.List.{range_with_len, sum_by}
use Rattle.std.specs.FinMap.{FinMap, get, insert, remove, entries, empty}
use Rattle.std.specs.FinSet as set
use Rattle.mc_column.specs.Sizes.{cells, squares}
use Rattle.mc_column.specs.Cells.{ColumnValue}
use Rattle.mc_slots.specs.declared.pile.Pile.{Pile}
use Rattle.mc_land.specs.declared.terrain.Terrain.{Terrain}
use Rattle.mc_land.specs.declared.ready.Touched.{Touched}
use Rattle.mc_land.specs.declared.land.setting.TheConstants.{CHEST}
use Rattle.mc_land.specs.Places.{Place, Key, place_cmp, key_cmp, key_of, x_of, y_of, z_of}
use Rattle.mc_slots.specs.Pile.{count_of}
use Rattle.mc_slots.specs.Chest.{empty_chest}
use Rattle.mc_land.specs.Ready.{touched_cells}
use Rattle.mc_land.specs.Terrain.{terrain_state, terrain_biome}
use lib.IntN.{ℤ, pos, negsuc, ◌+ℤ◌, ◌*ℤ◌}

pub record LandValue : Type 0 where
  pub terrain : Terrain
  -- the cells whose state is not the terrain's, with their states
  pub edits : FinMap key_cmp ℕ
  -- those at the last settling
  pub settled : FinMap key_cmp ℕ
  -- the piles of each chest, at its cell
  pub chests : FinMap key_cmp (List Pile)
  -- the columns that are ready to be looked at
  pub ready : set.FinSet place_cmp

-- ---- what a cell is

abbrev pub terrain_at : Terrain → Key → ℕ
terrain_at terrain key = terrain_state terrain (x_of key) (y_of key) (z_of key)

-- the edit where there is one, else the terrain
abbrev pub state_at : Terrain → FinMap key_cmp ℕ → Key → ℕ
state_at terrain edits key = unwrap_or (get edits key) (terrain_at terrain key)

-- the state of the cell at x, y and z: air above and below the world
abbrev pub block : LandValue → ℤ → ℤ → ℤ → ℕ
block land x (pos y) z = if nat_lt y 256 then state_at land.terrain land.edits (key_of x y z) else 0
block land x (negsuc y) z = 0

-- a column of cells, all of them
abbrev pub states_of : Terrain → FinMap key_cmp ℕ → Place → List ℕ
states_of terrain edits place = map (λ i. state_at terrain edits (place, i))
    (range_with_len 0 cells)

abbrev pub biomes_of : Terrain → Place → List ℕ
biomes_of terrain place = map (λ i. terrain_biome terrain (place.0 *ℤ pos 16 +ℤ pos (i % 16))
    (place.1 *ℤ pos 16 +ℤ pos (i / 16))) (range_with_len 0 squares)

abbrev pub column_of : LandValue → Place → ColumnValue
column_of land place = record {
  states = states_of land.terrain land.edits place;
  biomes = biomes_of land.terrain place;
}

-- ---- what changes it

-- a cell is set to a state: an edit, unless it is the terrain's own
abbrev pub edited : Terrain → FinMap key_cmp ℕ → Key → ℕ → FinMap key_cmp ℕ
edited terrain edits key state = if state == terrain_at terrain key then remove edits key else
    insert edits key state

-- a chest's state: the id of chests, with any metadata
abbrev pub is_chest : ℕ → Bool
is_chest state = state / 16 == CHEST

-- the chests after a cell that had one state got another: an empty one where it became a chest,
-- none where it ceased to be
abbrev pub chests_after : FinMap key_cmp (List Pile) → Key → ℕ → ℕ → FinMap key_cmp (List Pile)
chests_after chests key old new = if is_chest new then (if is_chest old then chests else
    insert chests key empty_chest) else remove chests key

-- a cell is set: its column is ready then
abbrev pub with_block : LandValue → Key → ℕ → LandValue
with_block land key state = record land {
  edits = edited land.terrain land.edits key state;
  chests = chests_after land.chests key (state_at land.terrain land.edits key) state;
  ready = set.insert land.ready key.0;
}

-- the edits at the last settling are those of now
abbrev pub settled_land : LandValue → LandValue
settled_land land = record land { settled = land.edits }

abbrev pub with_ready : LandValue → Place → LandValue
with_ready land place = record land { ready = set.insert land.ready place }

abbrev pub new_land : Terrain → LandValue
new_land terrain = record {
  terrain = terrain;
  edits = empty;
  settled = empty;
  chests = empty;
  ready = set.empty;
}

-- ---- what changed since the last settling

-- the cells of a column whose states differ, in rising index, with the states that they had
abbrev pub dirty_in : LandValue → Place → List Touched
dirty_in land place = touched_cells (states_of land.terrain land.settled place)
    (states_of land.terrain land.edits place)

-- ---- sums

-- all that lies in chests
abbrev pub stored_in : LandValue → ℕ
stored_in land = sum_by (λ e. sum_by count_of e.1) (entries land.chests)
