-- How many cells are looked at to show a client a game at a tick: all cells of each column that comes
-- into its view, each cell that changed of each that stays, and the cells that were noted for it.
-- Rules of this project.
use Rattle.std.specs.Prelude.{ℕ, ◌+◌, ◌*◌, length, Option, Some, None}
use Rattle.std.specs.FinMap.{FinMap}
use Rattle.std.specs.FinSet as set
use Rattle.std.specs.List.{filter, sum_by}
use Rattle.mc_column.specs.Sizes.{cells}
use Rattle.mc_land.specs.Places.{Place, key_cmp}
use Rattle.mc_land.specs.Land.{LandValue, dirty_in}
use Rattle.mc_loads.specs.ColumnFrames.{changes_cost, unencoded}
use Rattle.mc_flush.specs.Encoding.{EncodedValue, columns_in, looks_at}
use Rattle.mc_flush.specs.Seeing.{MarkValue}
use Rattle.mc_model.specs.Notes.{is_sent}
use Rattle.mc_model.specs.declared.player.Player.{Player}
use Rattle.mc_model.specs.Game.{Game, sees}
use Rattle.mc_showing.specs.Around.{kept_columns, new_columns}

-- the cells of a game beside those at the last settling; which columns are ready is not said
abbrev pub cells_of : FinMap key_cmp ℕ → Game → LandValue
cells_of settled g = record {
  terrain = g.settings.terrain;
  edits = g.edits;
  settled = settled;
  chests = g.chests;
  ready = set.empty;
}

-- how many cells of a column changed since then
abbrev pub changed_in : LandValue → Place → ℕ
changed_in land place = length (dirty_in land place)

-- to a player, if there is one, that was shown what a mark says: all cells of each column that comes,
-- and each cell that changed of each that stays
abbrev pub view_looks : FinMap key_cmp ℕ → Game → MarkValue → Option Player → ℕ
view_looks settled g mark None = 0
view_looks settled g mark (Some p) =
    cells * length (new_columns g p mark)
    + sum_by (changed_in (cells_of settled g)) (kept_columns g p mark)

-- and each cell that was noted
abbrev pub note_looks : Option Player → ℕ
note_looks None = 0
note_looks (Some p) = length p.notes.cells

abbrev pub client_looks : FinMap key_cmp ℕ → Game → MarkValue → Option Player → ℕ
client_looks settled g mark player = view_looks settled g mark player + note_looks player

-- ---- where frames were encoded before

-- the looks that its columns still take
abbrev pub looks_left : EncodedValue → FinMap key_cmp ℕ → Game → MarkValue → Option Player → ℕ
looks_left encoded settled g mark None = 0
looks_left encoded settled g mark (Some p) =
    cells * length (unencoded (columns_in encoded) (new_columns g p mark))
    + changes_cost (columns_in encoded) (cells_of settled g) (kept_columns g p mark)

-- and the noted cells: one for each in its view that has a state of its own
abbrev pub noted_looks : Game → Option Player → ℕ
noted_looks g None = 0
noted_looks g (Some p) = sum_by looks_at (filter (is_sent (sees g p)) p.notes.cells)

abbrev pub rest_looks : EncodedValue → FinMap key_cmp ℕ → Game → MarkValue → Option Player → ℕ
rest_looks encoded settled g mark player =
    looks_left encoded settled g mark player + noted_looks g player
