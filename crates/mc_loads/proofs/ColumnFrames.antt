-- What was encoded of columns stays their frames as more is encoded; what is sent of them column by
-- column, and what the looks at cells cost.
use Rattle.std.proofs.Common.{◌≡◌, ℕ, ◌+◌, ◌*◌, ◌≤◌, Bool, true, false, cond, not, ◌||◌, List, []}
use Rattle.std.proofs.Common.{◌∷◌, ◌++◌, length, Option, Some, None, zero-add, refl, sym, ap, ◌∙◌}
use Rattle.std.proofs.Common.{arith, append_assoc}
use Rattle.std.specs.List.{sum_by}
use Rattle.std.specs.Ordering.{eq_by_cmp}
use Rattle.std.specs.FinMap.{get, get-empty, get-insert, insert}
use Rattle.std.proofs.lemmas.List.{append-nil}
use Rattle.std.proofs.lemmas.List.Sums.{sum_by-append}
use Rattle.mc_column.specs.Sizes.{cells}
use Rattle.mc_land.specs.Places.{Place, place_cmp}
use Rattle.mc_land.specs.Land.{LandValue}
use Rattle.mc_land.proofs.Orders.{places_total}
use Rattle.mc_packets.specs.declared.down.Down.{Down}
use Rattle.mc_view.specs.declared.view_set.ViewSet.{ViewSet}
use Rattle.mc_sending.specs.Sending.{play_bytes}
use Rattle.mc_sending.proofs.Pieces.{play_bytes-append}
use Rattle.mc_loads.specs.Columns.{changed_packets, entered_of, left_of, load_packets}
use Rattle.mc_loads.specs.Columns.{place_packets, packets_between, stayed_of, staying, stays}
use Rattle.mc_loads.specs.Columns.{unload_packets}
use Rattle.mc_loads.specs.ColumnFrames.{AreColumnFrames, ColumnsValue, change_bytes, change_cost}
use Rattle.mc_loads.specs.ColumnFrames.{changes_cost, has_changes, has_load, is_clean, load_bytes}
use Rattle.mc_loads.specs.ColumnFrames.{load_cost, no_columns, unencoded, with_changes, with_load}
use Rattle.mc_loads.proofs.Places.{same_place}

same_bytes : (a b : List ℕ) → Some a ≡ Some b → b ≡ a
same_bytes a b e = sym cc

-- nothing was encoded yet
pub none_encoded : (land : LandValue) → AreColumnFrames land no_columns
none_encoded land = record {
  loads = λ place bytes e. let none : None ≡ Some bytes = sym (get-empty place_cmp place)
      ∙ e in absurd cc;
  changes = λ place bytes e. let none : None ≡ Some bytes = sym (get-empty place_cmp place)
      ∙ e in absurd cc;
}

-- one more load
put_one : (land : LandValue) (old : ColumnsValue) (place : Place) →
    AreColumnFrames land old →
    AreColumnFrames land (record old { loads = insert old.loads place (load_bytes land place) })
put_one land old place frames = record {
  loads = λ q bytes e. at q bytes (eq_by_cmp place_cmp q place) refl
      (sym (get-insert places_total old.loads place (load_bytes land place) q) ∙ e);
  changes = frames.changes;
}
  where
    at : (q : Place) (bytes : List ℕ) (t : Bool) → eq_by_cmp place_cmp q place ≡ t →
        cond t (Some (load_bytes land place)) (get old.loads q) ≡ Some bytes →
        bytes ≡ load_bytes land q
    at q bytes true t e = same_bytes (load_bytes land place) bytes e
        ∙ ap (load_bytes land) (sym (same_place q place t))
    at q bytes false t e = frames.loads q bytes e

pub load_added : (land : LandValue) (old : ColumnsValue) (place : Place) →
    AreColumnFrames land old → AreColumnFrames land (with_load old land place)
load_added land old place frames = step (has_load old place)
  where
    step : (b : Bool) → AreColumnFrames land
        (cond b old (record old { loads = insert old.loads place (load_bytes land place) }))
    step true = frames
    step false = put_one land old place frames

-- the changes of one more column
put_changed : (land : LandValue) (old : ColumnsValue) (place : Place) →
    AreColumnFrames land old →
    AreColumnFrames land
    (record old { changes = insert old.changes place (change_bytes land place) })
put_changed land old place frames = record {
  loads = frames.loads;
  changes = λ q bytes e. at q bytes (eq_by_cmp place_cmp q place) refl
      (sym (get-insert places_total old.changes place (change_bytes land place) q) ∙ e);
}
  where
    at : (q : Place) (bytes : List ℕ) (t : Bool) → eq_by_cmp place_cmp q place ≡ t →
        cond t (Some (change_bytes land place)) (get old.changes q) ≡ Some bytes →
        bytes ≡ change_bytes land q
    at q bytes true t e = same_bytes (change_bytes land place) bytes e
        ∙ ap (change_bytes land) (sym (same_place q place t))
    at q bytes false t e = frames.changes q bytes e

pub changes_added : (land : LandValue) (old : ColumnsValue) (place : Place) →
    AreColumnFrames land old → AreColumnFrames land (with_changes old land place)
changes_added land old place frames = step (has_changes old place || is_clean land place)
  where
    step : (b : Bool) → AreColumnFrames land
        (cond b old (record old { changes = insert old.changes place (change_bytes land place) }))
    step true = frames
    step false = put_changed land old place frames

-- ---- where nothing is there

-- a load that was not there is added
pub load_new : (encoded new : ColumnsValue) (land : LandValue) (place : Place) →
    has_load encoded place ≡ false →
    new ≡ record encoded { loads = insert encoded.loads place (load_bytes land place) } →
    new ≡ with_load encoded land place
load_new encoded new land place t is = is ∙ rw t refl

-- and changes, of which there are some
pub changes_new : (encoded new : ColumnsValue) (land : LandValue) (place : Place) →
    has_changes encoded place ≡ false → is_clean land place ≡ false →
    new ≡ record encoded { changes = insert encoded.changes place (change_bytes land place) } →
    new ≡ with_changes encoded land place
changes_new encoded new land place t some is = is ∙ rw (t, some) refl

-- ---- costs

-- what the next of some columns costs, and those behind it, is what all of them cost
each_cost : (encoded : ColumnsValue) (x : Place) (rest : List Place) →
    load_cost encoded x + cells * length (unencoded encoded rest)
    ≡ cells * length (unencoded encoded (x ∷ rest))
each_cost encoded x rest = step (has_load encoded x)
  where
    step : (b : Bool) → cond b 0 cells + cells * length (unencoded encoded rest)
        ≡ cells * length (cond (not b) (x ∷ unencoded encoded rest) (unencoded encoded rest))
    step true = omega arith
    step false = grind arith

-- the cost of the next is counted
pub next_load : (now after total : ℕ) (encoded : ColumnsValue) (left rest : List Place) (x : Place)
    →
    left ≡ x ∷ rest → now + cells * length (unencoded encoded left) ≡ total →
    after ≡ now + load_cost encoded x → after + cells * length (unencoded encoded rest) ≡ total
next_load now after total encoded left rest x is all put =
    let whole : now + cells * length (unencoded encoded (x ∷ rest)) ≡ total =
    ap (λ (places : List Place). now + cells * length (unencoded encoded places)) (sym is) ∙ all in
    omega (arith, each_cost encoded x rest, whole, put)

-- and no more was counted than all of them cost
pub next_within : (now after total : ℕ) (encoded : ColumnsValue) (left rest : List Place)
    (x : Place) → left ≡ x ∷ rest → now + cells * length (unencoded encoded left) ≡ total →
    after ≤ now + load_cost encoded x → after ≤ total
next_within now after total encoded left rest x is all few =
    let whole : now + cells * length (unencoded encoded (x ∷ rest)) ≡ total =
    ap (λ (places : List Place). now + cells * length (unencoded encoded places)) (sym is) ∙ all in
    omega (arith, each_cost encoded x rest, whole, few)

-- ---- changed cells, column by column

module _ (land : LandValue) (was : Option ViewSet) (view : ViewSet) where
  -- what is sent of a column and of those behind it
  pub changed_next : (x : Place) (rest : List Place) →
      play_bytes (changed_packets land (staying was view (x ∷ rest)))
      ≡ play_bytes (changed_packets land (staying was view (x ∷ [])))
      ++ play_bytes (changed_packets land (staying was view rest))
  changed_next x rest =
      let later : List Place = staying was view rest in
      elim (stays was view x) as (λ b. play_bytes (changed_packets land (cond b (x ∷ later) later))
      ≡ play_bytes (changed_packets land (cond b (x ∷ []) []))
      ++ play_bytes (changed_packets land later)) [
        | true ↦ play_bytes-append (place_packets land x) (changed_packets land later)
            ∙ ap (λ (ds : List Down). play_bytes ds ++ play_bytes (changed_packets land later))
            (sym (append-nil (place_packets land x)))
        | false ↦ refl
      ]

  -- and what the looks at them cost
  pub cost_next : (encoded : ColumnsValue) (x : Place) (rest : List Place) →
      changes_cost encoded land (staying was view (x ∷ rest))
      ≡ changes_cost encoded land (staying was view (x ∷ []))
      + changes_cost encoded land (staying was view rest)
  cost_next encoded x rest =
      let later : List Place = staying was view rest in
      elim (stays was view x) as (λ b. changes_cost encoded land (cond b (x ∷ later) later)
      ≡ changes_cost encoded land (cond b (x ∷ []) []) + changes_cost encoded land later) [
        | true ↦ let one : sum_by (change_cost encoded land) (x ∷ later)
            ≡ sum_by (change_cost encoded land) (x ∷ [])
            + sum_by (change_cost encoded land) later =
            sum_by-append (change_cost encoded land) (x ∷ []) later in one
        | false ↦ sym (zero-add (changes_cost encoded land later))
      ]

  -- one column that stays
  pub changed_one : (x : Place) (piece : List ℕ) → stays was view x ≡ true →
      piece ≡ change_bytes land x →
      piece ≡ play_bytes (changed_packets land (staying was view (x ∷ [])))
  changed_one x piece t is =
      is ∙ sym (ap (λ (b : Bool). play_bytes (changed_packets land (cond b (x ∷ []) []))) t
      ∙ ap play_bytes (append-nil (place_packets land x)))

  -- and what it costs
  pub cost_one : (encoded : ColumnsValue) (x : Place) → stays was view x ≡ true →
      changes_cost encoded land (staying was view (x ∷ [])) ≡ change_cost encoded land x
  cost_one encoded x t =
      ap (λ (b : Bool). changes_cost encoded land (cond b (x ∷ []) [])) t ∙ omega arith

-- all of columns
pub columns_put : (land : LandValue) (was : Option ViewSet) (view : ViewSet)
    (old one two new : List ℕ) →
    one ≡ old ++ play_bytes (unload_packets (left_of was view)) →
    two ≡ one ++ play_bytes (load_packets land (entered_of was view)) →
    new ≡ two ++ play_bytes (changed_packets land (stayed_of was view)) →
    new ≡ old ++ play_bytes (packets_between land was view)
columns_put land was view old one two new first second third =
    let a = unload_packets (left_of was view) in
    let b = load_packets land (entered_of was view) in
    let c = changed_packets land (stayed_of was view) in
    third ∙ ap (λ (t : List ℕ). t ++ play_bytes c)
    (second ∙ ap (λ (t : List ℕ). t ++ play_bytes b) first)
    ∙ three old (play_bytes a) (play_bytes b) (play_bytes c)
    ∙ ap (λ (t : List ℕ). old ++ t) (sym (play_bytes-append a (b ++ c)
    ∙ ap (λ (t : List ℕ). play_bytes a ++ t) (play_bytes-append b c)))
  where
    three : (o a b c : List ℕ) → ((o ++ a) ++ b) ++ c ≡ o ++ (a ++ (b ++ c))
    three o a b c = simp append_assoc
