-- What is the same for all clients of a tick, encoded once: the frames of who left and of who came
-- since the last settling, of each column's load and changed cells, of each entity's move or of what
-- shows it, and of what was said.
use Rattle.std.specs.Prelude.{◌≡◌, ◌||◌, ℕ, Bool, List, [], Option, Some, None, refl}
use Rattle.std.specs.Prelude.{if◌then◌else◌}
use Rattle.std.specs.Coded.{Coded, code_by, coded×, coded_ℕ, coded_ℤ, coded_list, coded_option}
use Rattle.std.specs.List.{filter, fold, sum_by}
use Rattle.std.specs.FinMap.{FinMap, code, empty, get, insert}
use Rattle.mc_column.specs.Sizes.{cells}
use Rattle.mc_fields.specs.declared.position.Cell.{Cell}
use Rattle.mc_land.specs.Places.{Place, is_height, place_cmp}
use Rattle.mc_land.specs.Land.{LandValue}
use Rattle.mc_entities.specs.declared.entity.Entity.{Entity}
use Rattle.mc_entities.specs.Folk.{FolkState}
use Rattle.mc_view.specs.declared.view_set.ViewSet.{ViewSet}
use Rattle.mc_view.specs.Sets.{has}
use Rattle.mc_view.specs.Views.{column_of_spot}
use Rattle.mc_model.specs.declared.notes.Notes.{Notes}
use Rattle.mc_model.specs.Notes.{is_sent}
use Rattle.mc_loads.specs.ColumnFrames.{ColumnsValue, change_bytes, is_clean, load_bytes}
use Rattle.mc_loads.specs.ColumnFrames as columns
use Rattle.mc_flush.specs.declared.encoded_line.EncodedLine.{EncodedLine}
use Rattle.mc_flush.specs.LineFrames.{AreLines, coded_lines, with_texts}
use Rattle.mc_flush.specs.Lists.{ListValue}
use Rattle.mc_told.specs.EntityFrames.{AreEncoded, EntitiesValue, coded_entities, no_entities}
use Rattle.mc_told.specs.EntityFrames.{with_frames_of}
use Rattle.mc_flush.specs.Seeing.{MarkValue, player_packets}
use Rattle.mc_sending.specs.Sending.{play_bytes}

pub record EncodedValue : Type 0 where
  -- the frames of who left and of who came, where they were encoded
  pub players : Option (List ℕ)
  -- by place, the frame that loads its column
  pub loads : FinMap place_cmp (List ℕ)
  -- by place, the frames of its cells that changed since the last settling
  pub changes : FinMap place_cmp (List ℕ)
  -- each entity's move since the last settling, and what shows each that some client may not know
  pub entities : EntitiesValue
  -- what was said since the last tick, each text with its frame
  pub lines : List EncodedLine

abbrev pub coded_encoded : Coded EncodedValue
coded_encoded =
    code_by (Option (List ℕ) × (FinMap place_cmp (List ℕ)
    × (FinMap place_cmp (List ℕ) × (EntitiesValue × List EncodedLine))))
    (coded× (coded_option (coded_list coded_ℕ))
    (coded× (code (coded× coded_ℤ coded_ℤ) (coded_list coded_ℕ))
    (coded× (code (coded× coded_ℤ coded_ℤ) (coded_list coded_ℕ))
    (coded× coded_entities coded_lines))))
    (λ encoded. (
      encoded.players,
      (encoded.loads, (encoded.changes, (encoded.entities, encoded.lines))),
    ))
    (λ parts. record {
      players = parts.0;
      loads = parts.1.0;
      changes = parts.1.1.0;
      entities = parts.1.1.1.0;
      lines = parts.1.1.1.1;
    })
    (λ encoded. refl)

abbrev pub nothing_encoded : EncodedValue
nothing_encoded = record {
  players = None;
  loads = empty;
  changes = empty;
  entities = no_entities;
  lines = [];
}

-- ---- what is encoded

-- the frames of who left and of who came since the last settling
abbrev pub player_bytes : ListValue → List ℕ
player_bytes list = play_bytes (player_packets list.last list.present)

-- what was encoded are the frames of these players, of the columns and cells of this land, of
-- entities, and of texts
pub record AreFrames (land : LandValue) (list : ListValue) (encoded : EncodedValue) : Type 0 where
  pub players : (bytes : List ℕ) → encoded.players ≡ Some bytes → bytes ≡ player_bytes list
  pub loads : (place : Place) (bytes : List ℕ) → get encoded.loads place ≡ Some bytes →
      bytes ≡ load_bytes land place
  pub changes : (place : Place) (bytes : List ℕ) → get encoded.changes place ≡ Some bytes →
      bytes ≡ change_bytes land place
  pub entities : AreEncoded encoded.entities
  pub lines : AreLines encoded.lines

-- ---- what is added

abbrev pub with_players : EncodedValue → ListValue → EncodedValue
with_players encoded list = record encoded { players = Some (player_bytes list) }

-- of columns
abbrev pub columns_in : EncodedValue → ColumnsValue
columns_in encoded = record { loads = encoded.loads; changes = encoded.changes }

abbrev pub has_load : EncodedValue → Place → Bool
has_load encoded place = columns.has_load (columns_in encoded) place

-- a load that is there stays
abbrev pub with_load : EncodedValue → LandValue → Place → EncodedValue
with_load encoded land place = if has_load encoded place then encoded else
    record encoded { loads = insert encoded.loads place (load_bytes land place) }

abbrev pub has_changes : EncodedValue → Place → Bool
has_changes encoded place = columns.has_changes (columns_in encoded) place

-- likewise changes, of which there may be none
abbrev pub with_changes : EncodedValue → LandValue → Place → EncodedValue
with_changes encoded land place = if has_changes encoded place || is_clean land place then encoded
    else record encoded { changes = insert encoded.changes place (change_bytes land place) }

-- of an entity, which comes into the view of some client if the load of its column was encoded
abbrev pub with_frames_beside : ColumnsValue → FolkState → EntitiesValue → Entity → EntitiesValue
with_frames_beside loads state entities e =
    with_frames_of state (columns.has_load loads (column_of_spot e.spot)) entities e

-- the moves of all entities, and what shows those that some client may not know
abbrev pub with_entity_frames : EncodedValue → FolkState → EncodedValue
with_entity_frames encoded state = record encoded {
  entities = fold
      (with_frames_beside (columns_in encoded) state) encoded.entities state.entities;
}

-- what was said, behind what is there
abbrev pub with_lines : EncodedValue → List (List ℕ) → EncodedValue
with_lines encoded texts = record encoded { lines = with_texts encoded.lines texts }

-- ---- what it costs

-- the looks at cells that the frames of its changed cells take: none where they were encoded
abbrev pub change_cost : EncodedValue → LandValue → Place → ℕ
change_cost encoded land place = columns.change_cost (columns_in encoded) land place

-- the looks at cells that the frame of a column's load takes: none where it was encoded
abbrev pub load_cost : EncodedValue → Place → ℕ
load_cost encoded place = columns.load_cost (columns_in encoded) place

-- those that a client's frames take at a tick: of the columns that come and of the cells that
-- changed
abbrev pub looks : EncodedValue → LandValue → MarkValue → ViewSet → ℕ
looks encoded land mark view = columns.looks (columns_in encoded) land mark.view view

-- and of the noted cells: one for each in the view that has a state of its own
abbrev pub looks_at : Cell → ℕ
looks_at cell = if is_height cell.y then 1 else 0

abbrev pub noted_cost : ViewSet → List Cell → ℕ
noted_cost view cells = sum_by looks_at (filter (is_sent (has view)) cells)

abbrev pub noted_looks : ViewSet → Notes → ℕ
noted_looks view notes = noted_cost view notes.cells
