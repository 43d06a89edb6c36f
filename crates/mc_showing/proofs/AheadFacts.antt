-- What was encoded stays so as more is, and what a client is sent of columns is all encoded once its
-- columns were prepared: no look at them is left.
use Rattle.std.proofs.Common.{◌≡◌, ℕ, Bool, true, false, cond, not, List, [], ◌∷◌}
use Rattle.std.proofs.Common.{length, refl, ap, ◌∙◌, arith}
use Rattle.std.proofs.lemmas.Bool.Decides.{nat_tests}
use Rattle.std.proofs.lemmas.Cmp.{tied_itself}
use Rattle.std.proofs.lemmas.List.Sums.{sum_by-cons}
use Rattle.std.specs.Prelude.{◌||◌, ◌==◌, Option, Some, None, is_some}
use Rattle.std.specs.List.{AllByRecursion}
use Rattle.std.specs.FinMap.{FinMap, contains_key, get, get-insert, insert}
use Rattle.std.specs.Ordering.{eq_by_cmp}
use Rattle.mc_land.specs.Places.{Place, key_cmp, place_cmp}
use Rattle.mc_land.specs.Land.{LandValue, dirty_in}
use Rattle.mc_land.proofs.Orders.{places_total}
use Rattle.mc_loads.specs.ColumnFrames.{change_bytes, changes_cost, is_clean, load_bytes, unencoded}
use Rattle.mc_flush.specs.Encoding.{EncodedValue, change_cost, columns_in, has_changes, has_load}
use Rattle.mc_flush.specs.Encoding.{with_changes, with_load}
use Rattle.mc_flush.specs.Seeing.{MarkValue}
use Rattle.mc_model.specs.declared.player.Player.{Player}
use Rattle.mc_model.specs.Game.{Game}
use Rattle.mc_showing.specs.Ahead.{prepared, with_all_changes, with_loads}
use Rattle.mc_showing.specs.Around.{kept_columns, new_columns}
use Rattle.mc_showing.specs.Looking.{cells_of, looks_left}

-- ---- what was encoded stays so

-- each load and each change that was encoded is
pub record Grows (land : LandValue) (old new : EncodedValue) : Type 0 where
  pub loads : (q : Place) → has_load old q ≡ true → has_load new q ≡ true
  pub changes : (q : Place) → change_cost old land q ≡ 0 → change_cost new land q ≡ 0

pub grows_itself : (land : LandValue) (e : EncodedValue) → Grows land e e
grows_itself land e = record { loads = λ q is. is; changes = λ q is. is }

pub grows_onward : (land : LandValue) (a b c : EncodedValue) → Grows land a b → Grows land b c →
    Grows land a c
grows_onward land a b c first second = record {
  loads = λ q is. second.loads q (first.loads q is);
  changes = λ q is. second.changes q (first.changes q is);
}

-- what a map has it has once more is put in, and that too
put_there : (m : FinMap place_cmp (List ℕ)) (k q : Place) (bytes : List ℕ) →
    contains_key m q ≡ true → contains_key (insert m k bytes) q ≡ true
put_there m k q bytes there = ap is_some (get-insert places_total m k bytes q)
    ∙ step (eq_by_cmp place_cmp q k)
  where
    step : (b : Bool) → is_some (cond b (Some bytes) (get m q)) ≡ true
    step true = refl
    step false = there

put_itself : (m : FinMap place_cmp (List ℕ)) (k : Place) (bytes : List ℕ) →
    contains_key (insert m k bytes) k ≡ true
put_itself m k bytes = ap is_some (get-insert places_total m k bytes k)
    ∙ rw (tied_itself places_total k) refl

module _ (land : LandValue) where
  -- ---- one column

  abbrev load_put : EncodedValue → Place → EncodedValue
  load_put e x = record e { loads = insert e.loads x (load_bytes land x) }

  abbrev change_put : EncodedValue → Place → EncodedValue
  change_put e x = record e { changes = insert e.changes x (change_bytes land x) }

  grows_put : (e : EncodedValue) (x : Place) → Grows land e (load_put e x)
  grows_put e x = record {
    loads = λ q is. put_there e.loads x q (load_bytes land x) is;
    changes = λ q is. is;
  }

  grows_load : (e : EncodedValue) (x : Place) → Grows land e (with_load e land x)
  grows_load e x = step (has_load e x)
    where
      step : (b : Bool) → Grows land e (cond b e (load_put e x))
      step true = grows_itself land e
      step false = grows_put e x

  change_stays : (e : EncodedValue) (x q : Place) → change_cost e land q ≡ 0 →
      change_cost (change_put e x) land q ≡ 0
  change_stays e x q none = step (has_changes e q) refl none
    where
      other : (b : Bool) → length (dirty_in land q) ≡ 0 → cond b 0 (length (dirty_in land q)) ≡ 0
      other true clean = refl
      other false clean = clean

      step : (b : Bool) → has_changes e q ≡ b → cond b 0 (length (dirty_in land q)) ≡ 0 →
          change_cost (change_put e x) land q ≡ 0
      step true t is = ap (λ (b : Bool). cond b 0 (length (dirty_in land q)))
          (put_there e.changes x q (change_bytes land x) t)
      step false t clean = other (has_changes (change_put e x) q) clean

  grows_change : (e : EncodedValue) (x : Place) → Grows land e (with_changes e land x)
  grows_change e x = step (has_changes e x || is_clean land x)
    where
      step : (b : Bool) → Grows land e (cond b e (change_put e x))
      step true = grows_itself land e
      step false = record { loads = λ q is. is; changes = λ q is. change_stays e x q is }

  load_there : (e : EncodedValue) (x : Place) → has_load (with_load e land x) x ≡ true
  load_there e x = step (has_load e x) refl
    where
      step : (b : Bool) → has_load e x ≡ b → has_load (cond b e (load_put e x)) x ≡ true
      step true t = t
      step false t = put_itself e.loads x (load_bytes land x)

  change_there : (e : EncodedValue) (x : Place) → change_cost (with_changes e land x) land x ≡ 0
  change_there e x = step (has_changes e x) (is_clean land x) refl refl
    where
      empty_ : (n : ℕ) → (n == 0) ≡ true → n ≡ 0
      empty_ n t = grind (arith, nat_tests)

      step : (b d : Bool) → has_changes e x ≡ b → is_clean land x ≡ d →
          change_cost (cond (b || d) e (change_put e x)) land x ≡ 0
      step true d t clean = ap (λ (b : Bool). cond b 0 (length (dirty_in land x))) t
      step false true t clean = ap (λ (b : Bool). cond b 0 (length (dirty_in land x))) t
          ∙ empty_ (length (dirty_in land x)) clean
      step false false t clean = ap (λ (b : Bool). cond b 0 (length (dirty_in land x)))
          (put_itself e.changes x (change_bytes land x))

  -- ---- columns one after another

  grows_loads : (places : List Place) (e : EncodedValue) → Grows land e (with_loads land e places)
  grows_loads [] e = grows_itself land e
  grows_loads (x ∷ places) e = grows_onward land e (with_load e land x)
      (with_loads land (with_load e land x) places) (grows_load e x)
      (grows_loads places (with_load e land x))

  grows_changes : (places : List Place) (e : EncodedValue) →
      Grows land e (with_all_changes land e places)
  grows_changes [] e = grows_itself land e
  grows_changes (x ∷ places) e = grows_onward land e (with_changes e land x)
      (with_all_changes land (with_changes e land x) places) (grows_change e x)
      (grows_changes places (with_changes e land x))

  -- all of some columns are encoded
  abbrev pub AreLoaded : EncodedValue → List Place → Type 0
  AreLoaded e places = AllByRecursion (λ (q : Place). has_load e q ≡ true) places

  abbrev pub AreChanged : EncodedValue → List Place → Type 0
  AreChanged e places = AllByRecursion (λ (q : Place). change_cost e land q ≡ 0) places

  all_loaded : (places : List Place) (e : EncodedValue) → AreLoaded (with_loads land e places) places
  all_loaded [] e = tt
  all_loaded (x ∷ places) e = (
    (grows_loads places (with_load e land x)).loads x (load_there e x),
    all_loaded places (with_load e land x),
  )

  all_changed : (places : List Place) (e : EncodedValue) →
      AreChanged (with_all_changes land e places) places
  all_changed [] e = tt
  all_changed (x ∷ places) e = (
    (grows_changes places (with_changes e land x)).changes x (change_there e x),
    all_changed places (with_changes e land x),
  )

  loaded_stays : (old new : EncodedValue) → Grows land old new → (places : List Place) →
      AreLoaded old places → AreLoaded new places
  loaded_stays old new grows [] all = tt
  loaded_stays old new grows (x ∷ places) all =
      (grows.loads x all.0, loaded_stays old new grows places all.1)

  changed_stays : (old new : EncodedValue) → Grows land old new → (places : List Place) →
      AreChanged old places → AreChanged new places
  changed_stays old new grows [] all = tt
  changed_stays old new grows (x ∷ places) all =
      (grows.changes x all.0, changed_stays old new grows places all.1)

  none_unencoded : (e : EncodedValue) (places : List Place) → AreLoaded e places →
      length (unencoded (columns_in e) places) ≡ 0
  none_unencoded e [] all = refl
  none_unencoded e (x ∷ places) all =
      let rest : List Place = unencoded (columns_in e) places in
      ap (λ (b : Bool). length (cond (not b) (x ∷ rest) rest)) all.0
      ∙ none_unencoded e places all.1

  no_cost : (e : EncodedValue) (places : List Place) → AreChanged e places →
      changes_cost (columns_in e) land places ≡ 0
  no_cost e [] all = refl
  no_cost e (x ∷ places) all = sum_by-cons (change_cost e land) x places
      ∙ omega (arith, all.0, no_cost e places all.1)

-- ---- what a client is sent of columns

module _ (settled : FinMap key_cmp ℕ) (g : Game) (mark : MarkValue) where
  -- it is encoded, where there is a player
  abbrev pub IsAhead : EncodedValue → Option Player → Type 0
  IsAhead e None = Unit {0}
  IsAhead e (Some p) = AreLoaded (cells_of settled g) e (new_columns g p mark)
      × AreChanged (cells_of settled g) e (kept_columns g p mark)

  pub ahead_stays : (old new : EncodedValue) (o : Option Player) →
      Grows (cells_of settled g) old new → IsAhead old o → IsAhead new o
  ahead_stays old new None grows is = tt
  ahead_stays old new (Some p) grows is = (
    loaded_stays (cells_of settled g) old new grows (new_columns g p mark) is.0,
    changed_stays (cells_of settled g) old new grows (kept_columns g p mark) is.1,
  )

  pub prepared_grows : (o : Option Player) (e : EncodedValue) →
      Grows (cells_of settled g) e (prepared settled g mark o e)
  prepared_grows None e = grows_itself (cells_of settled g) e
  prepared_grows (Some p) e =
      let land = cells_of settled g in
      let loaded = with_loads land e (new_columns g p mark) in
      grows_onward land e loaded (with_all_changes land loaded (kept_columns g p mark))
      (grows_loads land (new_columns g p mark) e)
      (grows_changes land (kept_columns g p mark) loaded)

  -- once it was prepared
  pub prepared_ahead : (o : Option Player) (e : EncodedValue) →
      IsAhead (prepared settled g mark o e) o
  prepared_ahead None e = tt
  prepared_ahead (Some p) e =
      let land = cells_of settled g in
      let loaded = with_loads land e (new_columns g p mark) in (
        loaded_stays land loaded (with_all_changes land loaded (kept_columns g p mark))
            (grows_changes land (kept_columns g p mark) loaded) (new_columns g p mark)
            (all_loaded land (new_columns g p mark) e),
        all_changed land (kept_columns g p mark) loaded,
      )

  -- and no look is left
  pub none_left : (e : EncodedValue) (o : Option Player) → IsAhead e o →
      looks_left e settled g mark o ≡ 0
  none_left e None is = refl
  none_left e (Some p) is =
      rw (
        none_unencoded (cells_of settled g) e (new_columns g p mark) is.0,
        no_cost (cells_of settled g) e (kept_columns g p mark) is.1,
      ) (omega arith)
