-- What was encoded stays the frames of the players and of the land as more is encoded.
use Rattle.std.proofs.Common.{◌≡◌, Bool, true, false, cond, ◌||◌, List, ◌∷◌, ℕ, Some, None}
use Rattle.std.proofs.Common.{refl, sym, ap, ◌∙◌}
use Rattle.std.specs.List.{fold}
use Rattle.std.specs.FinMap.{get-empty, insert}
use Rattle.mc_land.specs.Places.{Place, place_cmp}
use Rattle.mc_land.specs.Land.{LandValue}
use Rattle.mc_entities.specs.declared.entity.Entity.{Entity}
use Rattle.mc_entities.specs.Folk.{FolkState}
use Rattle.mc_view.specs.Views.{column_of_spot}
use Rattle.mc_told.specs.EntityFrames.{EntitiesValue, with_frames_of}
use Rattle.mc_told.proofs.EntityFrames as entities
use Rattle.mc_loads.specs.ColumnFrames.{AreColumnFrames, ColumnsValue, change_bytes, is_clean}
use Rattle.mc_loads.specs.ColumnFrames.{load_bytes}
use Rattle.mc_loads.specs.ColumnFrames as columns
use Rattle.mc_flush.specs.Lists.{ListValue}
use Rattle.mc_flush.specs.Encoding.{EncodedValue, AreFrames, columns_in, has_changes, has_load}
use Rattle.mc_flush.specs.Encoding.{nothing_encoded, player_bytes, with_changes, with_load}
use Rattle.mc_flush.specs.Encoding.{with_frames_beside, with_players}

same_bytes : (a b : List ℕ) → Some a ≡ Some b → b ≡ a
same_bytes a b e = sym cc

-- nothing was encoded yet
pub none_encoded : (land : LandValue) (list : ListValue) → AreFrames land list nothing_encoded
none_encoded land list = record {
  players = λ bytes e. absurd cc;
  loads = λ place bytes e. let none : None ≡ Some bytes = sym (get-empty place_cmp place)
      ∙ e in absurd cc;
  changes = λ place bytes e. let none : None ≡ Some bytes = sym (get-empty place_cmp place)
      ∙ e in absurd cc;
  entities = entities.none_encoded;
  lines = tt;
}

pub players_added : (land : LandValue) (list : ListValue) (old : EncodedValue) →
    AreFrames land list old → AreFrames land list (with_players old list)
players_added land list old frames = record {
  players = λ bytes e. same_bytes (player_bytes list) bytes e;
  loads = frames.loads;
  changes = frames.changes;
  entities = frames.entities;
  lines = frames.lines;
}

-- ---- columns

-- with these columns in place of its own
abbrev pub with_columns : EncodedValue → ColumnsValue → EncodedValue
with_columns encoded new = record encoded { loads = new.loads; changes = new.changes }

-- what was encoded stays the frames where that of columns does
pub columns_added : (land : LandValue) (list : ListValue) (old : EncodedValue)
    (new : ColumnsValue) → AreFrames land list old →
    (AreColumnFrames land (columns_in old) → AreColumnFrames land new) →
    AreFrames land list (with_columns old new)
columns_added land list old new frames step =
    let later : AreColumnFrames land new =
    step (record { loads = frames.loads; changes = frames.changes }) in
    record {
      players = frames.players;
      loads = later.loads;
      changes = later.changes;
      entities = frames.entities;
      lines = frames.lines;
    }

-- a load is added where it is added to the columns
pub load_is : (encoded : EncodedValue) (land : LandValue) (place : Place) →
    with_columns encoded (columns.with_load (columns_in encoded) land place)
    ≡ with_load encoded land place
load_is encoded land place = elim (has_load encoded place) as (λ b.
    with_columns encoded (cond b (columns_in encoded) (record (columns_in encoded) {
      loads = insert encoded.loads place (load_bytes land place);
    })) ≡ cond b encoded (record encoded {
      loads = insert encoded.loads place (load_bytes land place);
    })) [ true ↦ refl | false ↦ refl ]

-- and likewise changes
pub changes_is : (encoded : EncodedValue) (land : LandValue) (place : Place) →
    with_columns encoded (columns.with_changes (columns_in encoded) land place)
    ≡ with_changes encoded land place
changes_is encoded land place = elim (has_changes encoded place || is_clean land place) as (λ b.
    with_columns encoded (cond b (columns_in encoded) (record (columns_in encoded) {
      changes = insert encoded.changes place (change_bytes land place);
    })) ≡ cond b encoded (record encoded {
      changes = insert encoded.changes place (change_bytes land place);
    })) [ true ↦ refl | false ↦ refl ]

-- ---- entities

-- with the next entity, those of what is left make all
pub frames_next : (loads : ColumnsValue) (state : FolkState) (now new total : EntitiesValue)
    (comes : Bool) (e : Entity) (left rest : List Entity) → left ≡ e ∷ rest →
    comes ≡ columns.has_load loads (column_of_spot e.spot) →
    new ≡ with_frames_of state comes now e →
    fold (with_frames_beside loads state) now left ≡ total →
    fold (with_frames_beside loads state) new rest ≡ total
frames_next loads state now new total comes e left rest is loaded put all =
    ap (λ (es : EntitiesValue). fold (with_frames_beside loads state) es rest)
    (put ∙ ap (λ (b : Bool). with_frames_of state b now e) loaded)
    ∙ ap (fold (with_frames_beside loads state) now) (sym is) ∙ all
