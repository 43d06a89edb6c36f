-- Of the columns that stay in a view those alone make a difference of which a cell changed.
use Rattle.std.proofs.Common.{◌≡◌, ℕ, Bool, true, false, cond, not, List, [], ◌++◌, length}
use Rattle.std.proofs.Common.{Option, refl, sym, ap, ◌∙◌, arith}
use Rattle.std.proofs.lemmas.Bool.Decides.{nat_tests}
use Rattle.std.proofs.lemmas.List.{append-nil, nil_from_length}
use Rattle.std.proofs.lemmas.Map.Views.{Contains-from_any, list_any-from_Contains}
use Rattle.std.specs.Prelude.{◌==◌, map}
use Rattle.std.specs.Cmp.{both_ways, eq_by_cmp_equiv}
use Rattle.std.specs.List.{filter, list_any}
use Rattle.std.specs.Ordering.{eq_by_cmp}
use Rattle.mc_land.specs.Places.{Place, place_cmp}
use Rattle.mc_land.specs.Land.{LandValue, dirty_in, states_of}
use Rattle.mc_land.specs.Touched.{AreTouched}
use Rattle.mc_land.specs.declared.ready.Touched.{Touched}
use Rattle.mc_land.proofs.Orders.{exact_places, places_total}
use Rattle.mc_packets.specs.declared.down.Down.{Down}
use Rattle.mc_view.specs.declared.view_set.ViewSet.{ViewSet}
use Rattle.mc_view.specs.Sets.{all_of, has, is_within}
use Rattle.mc_view.proofs.Filters.{filtered_among, flat_map_filtered, sum_by_filtered}
use Rattle.mc_view.proofs.Members.{all_rise}
use Rattle.mc_model.specs.Delta.{cell_packets}
use Rattle.mc_model.proofs.ViewFacts.{near_view, view_near}
use Rattle.mc_sending.specs.Sending.{play_bytes}
use Rattle.mc_loads.specs.Columns.{changed_packets, place_packets, stayed_of, staying}
use Rattle.mc_loads.specs.ColumnFrames.{ColumnsValue, change_cost, changes_cost, has_changes}
use Rattle.mc_loads.proofs.Places.{same_place}

-- the columns of a view are those that it has
view_members : (view : ViewSet) (place : Place) →
    list_any (eq_by_cmp place_cmp place) (all_of view) ≡ has view place
view_members view place = both_ways (list_any (eq_by_cmp place_cmp place) (all_of view))
    (has view place)
    (λ held. view_near (view.cx, view.cz) view.d place
    (Contains-from_any same_place place (all_of view) held))
    (λ near. list_any-from_Contains (eq_by_cmp_equiv places_total) place (all_of view)
    (near_view (view.cx, view.cz) view.d place near))

module _ (land : LandValue) (touched : List Place) (are : AreTouched land touched) where
  abbrev pub is_touched : Place → Bool
  is_touched place = list_any (eq_by_cmp place_cmp place) touched

  -- no cell of another column changed
  pub none_dirty : (place : Place) → is_touched place ≡ false → dirty_in land place ≡ []
  none_dirty place out = nil_from_length (dirty_in land place)
      (none (length (dirty_in land place)) (sym (are.all place) ∙ out))
    where
      none : (n : ℕ) → not (n == 0) ≡ false → n ≡ 0
      none n t = grind (arith, nat_tests)

  -- those of which a cell changed are among the touched ones
  pub stayed_touched : (was : Option ViewSet) (view : ViewSet) →
      filter is_touched (stayed_of was view) ≡ staying was view touched
  stayed_touched was view = filtered_among places_total exact_places (has view) (is_within was)
      (all_of view) touched (all_rise view) are.rising (view_members view)

  pub changed_touched : (was : Option ViewSet) (view : ViewSet) →
      changed_packets land (stayed_of was view) ≡ changed_packets land (staying was view touched)
  changed_touched was view =
      flat_map_filtered is_touched (place_packets land) (λ place out.
      ap (λ (ts : List Touched). cell_packets place (states_of land.terrain land.edits place)
      (map (λ (t : Touched). t.index) ts)) (none_dirty place out)) (stayed_of was view)
      ∙ ap (changed_packets land) (stayed_touched was view)

  pub cost_touched : (encoded : ColumnsValue) (was : Option ViewSet) (view : ViewSet) →
      changes_cost encoded land (stayed_of was view)
      ≡ changes_cost encoded land (staying was view touched)
  cost_touched encoded was view =
      sum_by_filtered is_touched (change_cost encoded land) (λ place out.
      free (has_changes encoded place) (length (dirty_in land place))
      (ap length (none_dirty place out))) (stayed_of was view)
      ∙ ap (changes_cost encoded land) (stayed_touched was view)
    where
      free : (b : Bool) (n : ℕ) → n ≡ 0 → cond b 0 n ≡ 0
      free true n none = refl
      free false n none = none

  -- all was sent where none of them is left
  pub all_sent : (was : Option ViewSet) (view : ViewSet) (now old : List ℕ)
      (left all : List Place) → left ≡ [] → all ≡ touched →
      now ++ play_bytes (changed_packets land (staying was view left))
      ≡ old ++ play_bytes (changed_packets land (staying was view all)) →
      now ≡ old ++ play_bytes (changed_packets land (stayed_of was view))
  all_sent was view now old left all none same sent =
      sym (append-nil now)
      ∙ ap (λ (places : List Place). now ++ play_bytes (changed_packets land
      (staying was view places))) (sym none) ∙ sent
      ∙ ap (λ (places : List Place). old ++ play_bytes (changed_packets land
      (staying was view places))) same
      ∙ ap (λ (ds : List Down). old ++ play_bytes ds) (sym (changed_touched was view))
