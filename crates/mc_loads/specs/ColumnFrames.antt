-- The loads and the changed cells of columns, as the frames that tell them to a client, and the
-- looks at cells that these take.
use Rattle.std.specs.Prelude.{◌≡◌, ◌==◌, ◌||◌, ◌+◌, ◌*◌, ℕ, Bool, not, List, length, Some, Option}
use Rattle.std.specs.Prelude.{if◌then◌else◌, refl}
use Rattle.std.specs.Coded.{Coded, code_by, coded×, coded_ℕ, coded_ℤ, coded_list}
use Rattle.std.specs.List.{filter, sum_by}
use Rattle.std.specs.FinMap.{FinMap, code, contains_key, empty, get, insert}
use Rattle.mc_column.specs.Sizes.{cells}
use Rattle.mc_land.specs.Places.{Place, place_cmp}
use Rattle.mc_land.specs.Land.{LandValue, dirty_in}
use Rattle.mc_view.specs.declared.view_set.ViewSet.{ViewSet}
use Rattle.mc_model.specs.Packets.{of_play, frame_of}
use Rattle.mc_model.specs.Delta.{load}
use Rattle.mc_sending.specs.Sending.{play_bytes}
use Rattle.mc_loads.specs.Columns.{entered_of, place_packets, placed_column, stayed_of}

pub record ColumnsValue : Type 0 where
  -- by place, the frame that loads its column
  pub loads : FinMap place_cmp (List ℕ)
  -- by place, the frames of its cells that changed since the last settling
  pub changes : FinMap place_cmp (List ℕ)

abbrev pub coded_columns : Coded ColumnsValue
coded_columns =
    code_by (FinMap place_cmp (List ℕ) × FinMap place_cmp (List ℕ))
    (coded× (code (coded× coded_ℤ coded_ℤ) (coded_list coded_ℕ))
    (code (coded× coded_ℤ coded_ℤ) (coded_list coded_ℕ)))
    (λ columns. (columns.loads, columns.changes))
    (λ parts. record { loads = parts.0; changes = parts.1 })
    (λ columns. refl)

abbrev pub no_columns : ColumnsValue
no_columns = record { loads = empty; changes = empty }

-- the frame that loads the column of a place
abbrev pub load_bytes : LandValue → Place → List ℕ
load_bytes land place = frame_of (of_play (load (placed_column land place)))

-- the frames of the cells of a column that changed since the last settling
abbrev pub change_bytes : LandValue → Place → List ℕ
change_bytes land place = play_bytes (place_packets land place)

-- what was encoded are the frames of the columns and cells of this land
pub record AreColumnFrames (land : LandValue) (columns : ColumnsValue) : Type 0 where
  pub loads : (place : Place) (bytes : List ℕ) → get columns.loads place ≡ Some bytes →
      bytes ≡ load_bytes land place
  pub changes : (place : Place) (bytes : List ℕ) → get columns.changes place ≡ Some bytes →
      bytes ≡ change_bytes land place

-- ---- what is added

abbrev pub has_load : ColumnsValue → Place → Bool
has_load columns place = contains_key columns.loads place

-- a load that is there stays
abbrev pub with_load : ColumnsValue → LandValue → Place → ColumnsValue
with_load columns land place = if has_load columns place then columns else
    record columns { loads = insert columns.loads place (load_bytes land place) }

-- no cell of the column changed
abbrev pub is_clean : LandValue → Place → Bool
is_clean land place = length (dirty_in land place) == 0

abbrev pub has_changes : ColumnsValue → Place → Bool
has_changes columns place = contains_key columns.changes place

-- likewise changes, of which there may be none
abbrev pub with_changes : ColumnsValue → LandValue → Place → ColumnsValue
with_changes columns land place = if has_changes columns place || is_clean land place then columns
    else record columns { changes = insert columns.changes place (change_bytes land place) }

-- ---- what it costs

-- the looks at cells that the frames of its changed cells take: none where they were encoded
abbrev pub change_cost : ColumnsValue → LandValue → Place → ℕ
change_cost columns land place =
    if has_changes columns place then 0 else length (dirty_in land place)

abbrev pub changes_cost : ColumnsValue → LandValue → List Place → ℕ
changes_cost columns land places = sum_by (change_cost columns land) places

-- the looks at cells that the frame of a column's load takes: none where it was encoded
abbrev pub load_cost : ColumnsValue → Place → ℕ
load_cost columns place = if has_load columns place then 0 else cells

-- those of some columns whose loads were not encoded
abbrev pub unencoded : ColumnsValue → List Place → List Place
unencoded columns places = filter (λ (place : Place). not (has_load columns place)) places

-- those that a client's frames take at a tick: of the columns that come and of the cells that
-- changed
abbrev pub looks : ColumnsValue → LandValue → Option ViewSet → ViewSet → ℕ
looks columns land was view =
    cells * length (unencoded columns (entered_of was view))
    + changes_cost columns land (stayed_of was view)
