-- Of the columns that stay in a view those alone are encoded and looked at of which a cell changed.
use Rattle.std.proofs.Common.{◌≡◌, Bool, true, false, cond, List, length, refl, ap, ◌∙◌}
use Rattle.std.specs.Prelude.{◌||◌, ◌==◌, Option}
use Rattle.std.specs.FinMap.{insert}
use Rattle.std.specs.List.{filter, sum_by}
use Rattle.mc_land.specs.Places.{Place}
use Rattle.mc_land.specs.Land.{LandValue}
use Rattle.mc_land.specs.Touched.{AreTouched}
use Rattle.mc_land.specs.declared.ready.Touched.{Touched}
use Rattle.mc_view.specs.declared.view_set.ViewSet.{ViewSet}
use Rattle.mc_view.specs.Sets.{all_of, is_within}
use Rattle.mc_view.proofs.Filters.{fold_filtered, sum_by_filtered}
use Rattle.mc_loads.specs.ColumnFrames.{change_bytes, is_clean}
use Rattle.mc_loads.specs.Columns.{stayed_of}
use Rattle.mc_loads.proofs.TouchedColumns.{is_touched, none_dirty, stayed_touched}
use Rattle.mc_flush.specs.Encoding.{EncodedValue, has_changes, with_changes}
use Rattle.mc_showing.specs.Ahead.{with_all_changes, with_stayed_changes}
use Rattle.mc_showing.specs.Looking.{changed_in}
use Rattle.mc_showing.proofs.LookFacts.{stayed_cost}

module _ (land : LandValue) (touched : List Place) (are : AreTouched land touched)
    (was : Option ViewSet) (view : ViewSet) where
  -- a column of which no cell changed is not encoded
  unchanged : (e : EncodedValue) (place : Place) → is_touched land touched are place ≡ false →
      with_changes e land place ≡ e
  unchanged e place out = step (has_changes e place) (is_clean land place)
      (ap (λ (ts : List Touched). length ts == 0) (none_dirty land touched are place out))
      (record e { changes = insert e.changes place (change_bytes land place) })
    where
      step : (b clean : Bool) → clean ≡ true → (new : EncodedValue) → cond (b || clean) e new ≡ e
      step true clean is new = refl
      step false clean is new = ap (λ (b : Bool). cond b e new) is

  pub changes_touched : (e : EncodedValue) →
      with_all_changes land e (filter (is_within was) (all_of view))
      ≡ with_stayed_changes land was view e touched
  changes_touched e =
      fold_filtered (is_touched land touched are) (λ (e : EncodedValue) place.
      with_changes e land place) unchanged e (stayed_of was view)
      ∙ ap (with_all_changes land e) (stayed_touched land touched are was view)

  -- nor looked at
  pub looks_touched : sum_by (changed_in land) (filter (is_within was) (all_of view))
      ≡ stayed_cost land was view touched
  looks_touched =
      sum_by_filtered (is_touched land touched are) (changed_in land) (λ place out.
      ap (λ (ts : List Touched). length ts) (none_dirty land touched are place out))
      (stayed_of was view)
      ∙ ap (sum_by (changed_in land)) (stayed_touched land touched are was view)
