-- What is shown of a view has exactly the view's columns, in their order.
use Rattle.std.proofs.Common.{◌≡◌, ℕ, Bool, true, false, cond, ◌||◌, T, List, [], ◌∷◌, map, Some}
use Rattle.std.proofs.Common.{None, is_some, refl, sym, subst, ap, ◌∙◌}
use Rattle.std.specs.List.{list_any}
use Rattle.std.specs.declared.cmp.Ordering.{Ordering}
use Rattle.std.specs.Ordering.{eq_by_cmp}
use Rattle.std.specs.Cmp.{IsTotalOrder, eq_by_cmp_equiv}
use Rattle.std.specs.FinMap.{FinMap, IsAntisymmetric, find, is_sorted, keys, entries}
use Rattle.std.specs.FinMap.{entries_sorted, contains_key, contains_key-keys, from_entries, get}
use Rattle.std.specs.FinMap.{get-from_entries}
use Rattle.std.specs.FinMap.Entries.{same_entries}
use Rattle.std.proofs.lemmas.Map.Views.{list_any-from_Contains, Contains-from_any}
use Rattle.mc_land.specs.declared.terrain.Terrain.{Terrain}
use Rattle.mc_land.specs.Places.{Place, place_cmp, key_cmp}
use Rattle.mc_column.specs.Cells.{ColumnValue}
use Rattle.mc_land.proofs.Orders.{places_total, exact_places}
use Rattle.mc_model.proofs.ViewFacts.{view_near, near_view}
use Rattle.mc_view.specs.declared.view_set.ViewSet.{ViewSet}
use Rattle.mc_view.specs.Sets.{has, all_of}
use Rattle.mc_loads.specs.Columns.{placed_with}
use Rattle.mc_bytes.proofs.Trees.{equal}
use Rattle.mc_sending.proofs.Keys.{alike}
use Rattle.mc_loads.proofs.Places.{same_place}
use Rattle.mc_told.proofs.Ordered.{entries_made}
use Rattle.mc_told.proofs.Rising.{rising, sorted_is, view_rising}

-- ---- which columns a view has

-- a column is among those of a view where the view has it
pub listed_has : (view : ViewSet) (place : Place) →
    list_any (eq_by_cmp place_cmp place) (all_of view) ≡ has view place
listed_has view place =
    alike (list_any (eq_by_cmp place_cmp place) (all_of view)) (has view place)
    (λ t. view_near (view.cx, view.cz) view.d place (Contains-from_any same_place place (all_of
    view) t))
    (λ t. list_any-from_Contains (eq_by_cmp_equiv places_total) place (all_of view) (near_view
    (view.cx, view.cz) view.d place t))

-- ---- entries that are made of their keys

module _ {K X : Type 0} (R : K → K → Ordering) (f : K → X) where
  abbrev pub paired : List K → List (K × X)
  paired ks = map (λ k. (k, f k)) ks

  firsts : (ks : List K) → map (λ e. e.0) (paired ks) ≡ ks
  firsts [] = refl
  firsts (k ∷ ks) = ap (λ (rest : List K). k ∷ rest) (firsts ks)

  pub paired_sorted : (ks : List K) → T (rising R ks) → T (is_sorted R (paired ks))
  paired_sorted ks up = subst T (sym (sorted_is R (paired ks) ∙ ap (rising R) (firsts ks))) up

  pub find_paired : IsAntisymmetric R → (q : K) (ks : List K) →
      find R q (paired ks) ≡ cond (list_any (eq_by_cmp R q) ks) (Some (f q)) None
  find_paired exact q [] = refl
  find_paired exact q (k ∷ ks) =
      elim (eq_by_cmp R q k) as (λ t. eq_by_cmp R q k ≡ t →
      cond t (Some (f k)) (find R q (paired ks)) ≡ cond (t || list_any (eq_by_cmp R q) ks) (Some
      (f q)) None) [
        | true ↦ λ t. ap (λ (x : K). Some (f x)) (sym (exact q k (equal (R q k) t)))
        | false ↦ λ t. find_paired exact q ks
      ] refl

-- rising keys are known by what is among them
pub same_keys : {K : Type 0} (R : K → K → Ordering) → IsTotalOrder R → IsAntisymmetric R →
    (ks ls : List K) → T (rising R ks) → T (rising R ls) → ((q : K) →
    list_any (eq_by_cmp R q) ks ≡ list_any (eq_by_cmp R q) ls) → ks ≡ ls
same_keys {K} R o exact ks ls up vp same =
    let unit : K → ℕ = λ k. 0 in
    sym (firsts R unit ks)
    ∙ ap (map (λ (e : K × ℕ). e.0)) (same_entries R o exact (paired R unit ks) (paired R unit ls)
    (paired_sorted R unit ks up) (paired_sorted R unit ls vp)
    (λ q. find_paired R unit exact q ks ∙ ap (λ (b : Bool). cond b (Some 0) None) (same q)
    ∙ sym (find_paired R unit exact q ls)))
    ∙ firsts R unit ls

-- ---- what is shown of a view

-- a map with exactly the columns of a view has them as its keys
pub keys_shown : {X : Type 0} (m : FinMap place_cmp X) (view : ViewSet) → ((place : Place) →
    contains_key m place ≡ has view place) → keys m ≡ all_of view
keys_shown m view same =
    same_keys place_cmp places_total exact_places (keys m) (all_of view)
    (subst T (sorted_is place_cmp (entries m)) (entries_sorted m)) (view_rising (view.cx, view.cz)
    view.d)
    (λ q. sym (contains_key-keys m q) ∙ same q ∙ sym (listed_has view q))

pub shown_has : (terrain : Terrain) (edits : FinMap key_cmp ℕ) (view : ViewSet) (place : Place) →
    contains_key (from_entries {R = place_cmp} (map (placed_with terrain edits) (all_of view)))
    place
    ≡ has view place
shown_has terrain edits view place =
    ap is_some (get-from_entries places_total (map (placed_with terrain edits) (all_of view)) place
    ∙ find_paired place_cmp (λ (p : Place). (placed_with terrain edits p).1) exact_places place
    (all_of view))
    ∙ there (list_any (eq_by_cmp place_cmp place) (all_of view)) (placed_with terrain edits place).1
    ∙ listed_has view place
  where
    there : (b : Bool) (column : ColumnValue) → is_some (cond b (Some column) None) ≡ b
    there true column = refl
    there false column = refl

pub shown_entries : (terrain : Terrain) (edits : FinMap key_cmp ℕ) (view : ViewSet) →
    entries (from_entries {R = place_cmp} (map (placed_with terrain edits) (all_of view)))
    ≡ map (placed_with terrain edits) (all_of view)
shown_entries terrain edits view =
    entries_made place_cmp places_total exact_places (map (placed_with terrain edits) (all_of view))
    (paired_sorted place_cmp (λ (p : Place). (placed_with terrain edits p).1) (all_of view)
    (view_rising (view.cx, view.cz) view.d))

-- what stands at a place: its column, where the view has it
pub shown_get : (terrain : Terrain) (edits : FinMap key_cmp ℕ) (view : ViewSet) (place : Place) →
    get (from_entries {R = place_cmp} (map (placed_with terrain edits) (all_of view))) place
    ≡ cond (has view place) (Some (placed_with terrain edits place).1) None
shown_get terrain edits view place =
    get-from_entries places_total (map (placed_with terrain edits) (all_of view)) place
    ∙ find_paired place_cmp (λ (p : Place). (placed_with terrain edits p).1) exact_places place
    (all_of view)
    ∙ ap (λ (b : Bool). cond b (Some (placed_with terrain edits place).1) None)
    (listed_has view place)
