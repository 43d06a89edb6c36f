-- What is dirty, together with what enters, is exactly the difference of two sights: of what a mark
-- stands for and of what is seen, also where the view moves in the tick in which blocks change.
use Rattle.std.proofs.Common.{◌≡◌, ℕ, Bool, true, false, cond, not, List, [], ◌∷◌, ◌++◌, map, T}
use Rattle.std.proofs.Common.{Option, Some, None, refl, sym, subst, ap, ◌∙◌, arith}
use Rattle.std.specs.Prelude.{is_some, option_map, if◌then◌else◌}
use Rattle.std.specs.List.{filter, flat_map, range_with_len}
use Rattle.std.specs.Ordering.{int_cmp}
use Rattle.std.specs.FinMap.{FinMap, empty, entries, keys, len-entries, len-empty, contains_key}
use Rattle.std.specs.FinMap.{contains_key-keys, entries_sorted, get, get-empty}
use Rattle.std.specs.FinMap.{int_cmp-IsAntisymmetric}
use Rattle.std.proofs.lemmas.Cmp.{int_cmp_total}
use Rattle.std.proofs.lemmas.List.{append-nil, nil_from_length}
use Rattle.std.proofs.Math.Seq.{drop-append_seam}
use Rattle.std.proofs.lemmas.Bool.Decides.{nat_tests}
use lib.IntN.{ℤ, pos}
use Rattle.mc_column.specs.Cells.{ColumnValue}
use Rattle.mc_column.specs.Sizes.{cells}
use Rattle.mc_land.specs.declared.ready.Touched.{Touched}
use Rattle.mc_land.specs.Places.{Place, place_cmp}
use Rattle.mc_land.specs.Ready.{has_changed, touched_cell}
use Rattle.mc_land.specs.Land.{LandValue, states_of}
use Rattle.mc_fields.specs.declared.position.Spot.{Spot}
use Rattle.mc_slots.specs.declared.pile.Pile.{Pile}
use Rattle.mc_slots.specs.declared.slot.Slot.{Slot}
use Rattle.mc_slots.specs.Pile.{slot_of}
use Rattle.mc_windows.specs.Pack.{PackValue}
use Rattle.mc_entities.specs.declared.entity.Entity.{Entity}
use Rattle.mc_entities.specs.Folk.{eid_of}
use Rattle.mc_entities.specs.Numbers.{Rise}
use Rattle.mc_packets.specs.declared.down.Down.{Down}
use Rattle.mc_view.specs.declared.view_set.ViewSet.{ViewSet}
use Rattle.mc_view.specs.Sets.{all_of, has, is_within}
use Rattle.mc_view.specs.Told.{Told}
use Rattle.mc_model.specs.Sight.{Seen, Sight, window_seen}
use Rattle.mc_model.specs.Delta.{Pairs, delta, load, unload, cell_packets, column_changes}
use Rattle.mc_model.specs.Delta.{beat_packets, chat_packet, destroying, entity_packets}
use Rattle.mc_model.specs.Delta.{cursor_packets, time_packets, window_changes}
use Rattle.mc_flush.specs.Lists.{ListValue}
use Rattle.mc_flush.specs.Seeing.{MarkValue, Parts, StandsFor, changes, columns_in, listed}
use Rattle.mc_flush.specs.Seeing.{leaver_packets, joiner_packets, pairs_in, present_parts, seen}
use Rattle.mc_flush.specs.Seeing.{seen_window, settled_parts, window_kept}
use Rattle.mc_told.specs.Telling.{age_now, beat_now, gone_from, packets_of, kept_of, shown_now}
use Rattle.mc_told.specs.Telling.{told_as, told_slot, entity_frames, told_now}
use Rattle.mc_loads.specs.Columns.{changed_packets, entered_of, left_of, load_packets}
use Rattle.mc_loads.specs.Columns.{place_packets, placed_column, placed_with, unload_packets}
use Rattle.mc_told.proofs.Rising.{sorted_is}
use Rattle.mc_told.proofs.Rows.{known_alike, seen_rows, shown_rows, shown_told}
use Rattle.mc_sending.proofs.Keys.{all_kept, same_filter}
use Rattle.mc_flush.proofs.Shown.{keys_shown, same_keys, shown_entries, shown_get, shown_has}

-- ---- lists

-- functions that agree give the same pieces
same_joined : {A B : Type 0} (f g : A → List B) → ((x : A) → f x ≡ g x) → (xs : List A) →
    flat_map f xs ≡ flat_map g xs
same_joined f g same [] = refl
same_joined f g same (x ∷ xs) = λ i. same x i ++ same_joined f g same xs i

-- a test of places may be made before their columns are looked up
filter_placed : (land : LandValue) (test : Place → Bool) (places : List Place) →
    filter (λ (e : Place × ColumnValue). test e.0) (map (placed_column land) places)
    ≡ map (placed_column land) (filter test places)
filter_placed land test [] = grind (arith, nat_tests)
filter_placed land test (place ∷ places) = grind (arith, nat_tests, filter_placed land test places)

-- ---- the columns that were shown

-- the places of a view, none of none
abbrev places_in : Option ViewSet → List Place
places_in None = []
places_in (Some view) = all_of view

-- the column that was shown under a place
in_get : (was : Option ViewSet) (parts : Parts) (place : Place) →
    get (columns_in was parts) place
    ≡ cond (is_within was place) (Some (placed_with parts.terrain parts.edits place).1) None
in_get None parts place = get-empty place_cmp place
in_get (Some view) parts place = shown_get parts.terrain parts.edits view place

-- a column was shown under the places of the view
in_has : (was : Option ViewSet) (parts : Parts) (place : Place) →
    contains_key (columns_in was parts) place ≡ is_within was place
in_has None parts place = ap is_some (get-empty place_cmp place)
in_has (Some view) parts place = shown_has parts.terrain parts.edits view place

-- the places of the columns that were shown
in_keys : (was : Option ViewSet) (parts : Parts) → keys (columns_in was parts) ≡ places_in was
in_keys None parts = ap (map (λ (e : Place × ColumnValue). e.0))
    (nil_from_length _ (sym (len-entries empty) ∙ len-empty place_cmp ColumnValue))
in_keys (Some view) parts = keys_shown (columns_in (Some view) parts) view
    (shown_has parts.terrain parts.edits view)

-- ---- columns that go and come

-- the columns that the new view lacks
left_is : (was : Option ViewSet) (view : ViewSet) →
    filter (λ (place : Place). not (has view place)) (places_in was) ≡ left_of was view
left_is None view = refl
left_is (Some old) view = refl

-- the columns that were not shown before
entered_is : (was : Option ViewSet) (view : ViewSet) →
    filter (λ (place : Place). not (is_within was place)) (all_of view) ≡ entered_of was view
entered_is None view = all_kept (all_of view)
entered_is (Some old) view = refl

-- the packets that take columns away
unloads_are : (land : LandValue) (was : Option ViewSet) (parts : Parts) (view : ViewSet)
    (m : FinMap place_cmp ColumnValue) → m ≡ columns_in was parts →
    map unload (filter (λ (place : Place). not (contains_key (columns_in (Some view)
    (record parts { terrain = land.terrain; edits = land.edits })) place)) (keys m))
    ≡ unload_packets (left_of was view)
unloads_are land was parts view m is =
    ap (map unload)
    (ap (filter (λ (place : Place). not (contains_key (columns_in (Some view)
    (record parts { terrain = land.terrain; edits = land.edits })) place))) (ap keys is
    ∙ in_keys was parts)
    ∙ same_filter (λ (place : Place). not (contains_key (columns_in (Some view)
    (record parts { terrain = land.terrain; edits = land.edits })) place))
    (λ (place : Place). not (has view place))
    (λ place. ap not (shown_has land.terrain land.edits view place)) (places_in was)
    ∙ left_is was view)

-- the packets that load columns
loads_are : (land : LandValue) (was : Option ViewSet) (parts : Parts) (view : ViewSet)
    (m : FinMap place_cmp ColumnValue) → m ≡ columns_in was parts →
    map load (filter (λ (e : Place × ColumnValue). not (contains_key m e.0))
    (map (placed_column land) (all_of view))) ≡ load_packets land (entered_of was view)
loads_are land was parts view m is =
    ap (map load)
    (filter_placed land (λ (place : Place). not (contains_key m place)) (all_of view)
    ∙ ap (map (placed_column land)) (same_filter
    (λ (place : Place). not (contains_key m place)) (λ (place : Place). not (is_within was place))
    (λ place. ap (λ (n : FinMap place_cmp ColumnValue). not (contains_key n place)) is
    ∙ ap not (in_has was parts place)) (all_of view) ∙ entered_is was view))

-- ---- cells that changed

-- cells that were touched are told by their indices
touched_indices : (was : List ℕ) (is : List ℕ) →
    map (λ (t : Touched). t.index) (map (touched_cell was) is) ≡ is
touched_indices was [] = refl
touched_indices was (i ∷ is) = ap (λ (js : List ℕ). i ∷ js) (touched_indices was is)

-- what is dirty is what differs from the last settling
dirty_differs : (land : LandValue) (list : ListValue) (place : Place) →
    column_changes place
    (Some (placed_with land.terrain land.settled place).1) (placed_column land place).1
    ≡ place_packets land place
dirty_differs land list place =
    let was = states_of land.terrain land.settled place in
    let now = states_of land.terrain land.edits place in
    ap (cell_packets place now)
    (sym (touched_indices was (filter (has_changed was now) (range_with_len 0 cells))))

-- the packets of the cells that changed, of the columns that stay
cells_are : (land : LandValue) (list : ListValue) (was : Option ViewSet)
    (m : FinMap place_cmp ColumnValue) → m ≡ columns_in was (settled_parts land list) →
    (places : List Place) →
    flat_map (λ (e : Place × ColumnValue). column_changes e.0 (get m e.0) e.1)
    (map (placed_column land) places)
    ≡ changed_packets land (filter (is_within was) places)
cells_are land list was m is [] = refl
cells_are land list was m is (place ∷ places) =
    let f : Place × ColumnValue → List Down = λ e. column_changes e.0 (get m e.0) e.1 in
    let there : get m place ≡ cond (is_within was place)
    (Some (placed_with land.terrain land.settled place).1) None =
    ap (λ (n : FinMap place_cmp ColumnValue). get n place) is
    ∙ in_get was (settled_parts land list) place in
    ap (λ (o : Option ColumnValue). column_changes place o (placed_column land place).1
    ++ flat_map f (map (placed_column land) places)) there
    ∙ elim (is_within was place) as (λ b. column_changes place
    (cond b (Some (placed_with land.terrain land.settled place).1) None)
    (placed_column land place).1
    ++ flat_map f (map (placed_column land) places)
    ≡ flat_map (place_packets land) (cond b (place ∷ filter (is_within was) places)
    (filter (is_within was) places))) [
      | true ↦ λ i. dirty_differs land list place i ++ cells_are land list was m is places i
      | false ↦ cells_are land list was m is places
    ]

-- ---- entities

-- of each entity what was told is what was kept of it
abbrev pub AreTold : FinMap int_cmp Seen → Told → Type 0
AreTold m told = (eid : ℤ) → option_map kept_of (get m eid) ≡ option_map told_slot (get told eid)

-- the numbers of a sight are those that were told
keys_told : (m : FinMap int_cmp Seen) (told : Told) → AreTold m told → keys m ≡ keys told
keys_told m told same =
    same_keys int_cmp int_cmp_total int_cmp-IsAntisymmetric (keys m) (keys told)
    (subst T (sorted_is int_cmp (entries m)) (entries_sorted m))
    (subst T (sorted_is int_cmp (entries told)) (entries_sorted told))
    (λ q. sym (contains_key-keys m q) ∙ known_alike (get m q) (get told q) (same q)
    ∙ contains_key-keys told q)

-- the packets that take entities away
destroys_are : (m : FinMap int_cmp Seen) (told : Told) (es : List Entity) (view : ViewSet) →
    AreTold m told →
    destroying (filter (λ (eid : ℤ). not (contains_key (shown_now es view) eid)) (keys m))
    ≡ destroying (gone_from told es view)
destroys_are m told es view same =
    ap (λ (ks : List ℤ). destroying (filter
    (λ (eid : ℤ). not (contains_key (shown_now es view) eid)) ks)) (keys_told m told same)

-- what an entity takes rests on no more than what is kept of it
packets_alike : (eid : ℤ) (new : Seen) (o : Option Seen) (t : Option (Spot × Pile)) →
    option_map kept_of o ≡ option_map told_slot t →
    entity_packets eid o new ≡ entity_packets eid (option_map (told_as new.kind) t) new
packets_alike eid new o t same = grind (arith, nat_tests)

-- the packets of the entities that are shown
entities_are : (m : FinMap int_cmp Seen) (told : Told) (es : List Entity) (view : ViewSet)
    (high : ℤ) → Rise eid_of (pos 0) es high → AreTold m told →
    flat_map (λ (e : ℤ × Seen). entity_packets e.0 (get m e.0) e.1) (entries (shown_now es view))
    ≡ entity_frames told es view
entities_are m told es view high r same =
    ap (flat_map (λ (e : ℤ × Seen). entity_packets e.0 (get m e.0) e.1))
    (shown_rows view es high r ∙ sym (seen_rows view es))
    ∙ same_joined (λ (e : ℤ × Seen). entity_packets e.0 (get m e.0) e.1) (packets_of told)
    (λ e. packets_alike e.0 e.1 (get m e.0) (get told e.0) (same e.0)) _

-- ---- all of it

-- the players that were shown are those that were listed
listed_is : (mark : MarkValue) (land : LandValue) (list : ListValue) →
    pairs_in mark.view (settled_parts land list) ≡ listed mark list
listed_is mark land list = elim mark.view as (λ was. pairs_in was (settled_parts land list)
    ≡ (if is_some was then list.last else empty)) [ None ↦ refl | Some view ↦ refl ]

-- lists of twelve equal pieces are equal
twelve_points : (a b c d e f g h j k l m a' b' c' d' e' f' g' h' j' k' l' m' : List Down) →
    a ≡ a' → b ≡ b' → c ≡ c' → d ≡ d' → e ≡ e' → f ≡ f' → g ≡ g' → h ≡ h' → j ≡ j' → k ≡ k' →
    l ≡ l' → m ≡ m' →
    a ++ (b ++ (c ++ (d ++ (e ++ (f ++ (g ++ (h ++ (j ++ (k ++ (l ++ (m ++ [])))))))))))
    ≡ a' ++ (b' ++ (c' ++ (d' ++ (e' ++ (f' ++ (g' ++ (h' ++ (j' ++ (k' ++ (l' ++ m'))))))))))
twelve_points a b c d e f g h j k l m a' b' c' d' e' f' g' h' j' k' l' m' pa pb pc pd pe pf pg ph
    pj pk pl pm =
    λ i. pa i ++ (pb i ++ (pc i ++ (pd i ++ (pe i ++ (pf i ++ (pg i ++ (ph i ++ (pj i ++ (pk i
    ++ (pl i ++ (append-nil m ∙ pm) i))))))))))

-- the difference from what a mark stands for is the changes
pub delta_is : (land : LandValue) (list : ListValue) (es : List Entity) (pack : PackValue)
    (chest : Option (List Pile)) (mark : MarkValue) (view : ViewSet) (age : ℕ)
    (lines : List (List ℕ)) (p : Sight) (high : ℤ) →
    Rise eid_of (pos 0) es high → StandsFor mark (settled_parts land list) p →
    delta p (seen land list es pack chest view age (p.chat ++ lines))
    ≡ changes land list es pack chest mark view age lines
unfolding delta changes StandsFor
delta_is land list es pack chest mark view age lines p high r stands =
    let parts = settled_parts land list in
    let pairs : p.pairs ≡ listed mark list = stands.pairs ∙ listed_is mark land list in
    let all = shown_entries land.terrain land.edits view in
    twelve_points _ _ _ _ _ _ _ _ _ _ _ _ _ _ _ _ _ _ _ _ _ _ _ _
    (ap (λ (told : Option ℤ). beat_packets told (beat_now age)) stands.beat)
    (ap (λ (told : Option ℤ). time_packets told (age_now age)) stands.age)
    (ap (λ (m : Pairs). leaver_packets m list.present) pairs)
    (ap (λ (m : Pairs). joiner_packets m list.present) pairs)
    (destroys_are p.entities mark.told es view stands.entities)
    (unloads_are land mark.view parts view p.columns stands.columns)
    (ap (λ (rows : List (Place × ColumnValue)). map load (filter
    (λ (e : Place × ColumnValue). not (contains_key p.columns e.0)) rows)) all
    ∙ loads_are land mark.view parts view p.columns stands.columns)
    (ap (flat_map (λ (e : Place × ColumnValue). column_changes e.0 (get p.columns e.0) e.1)) all
    ∙ cells_are land list mark.view p.columns stands.columns (all_of view))
    (entities_are p.entities mark.told es view high r stands.entities)
    (λ i. window_changes (stands.window i) (window_seen pack chest) (stands.pack i)
    (map slot_of pack.slots))
    (ap (λ (old : Slot). cursor_packets old (slot_of pack.cursor)) stands.cursor)
    (ap (map chat_packet) (drop-append_seam p.chat lines))

-- what a mark keeps of a tick stands for what is seen, whatever was said
pub stands_seen : (land : LandValue) (list : ListValue) (es : List Entity) (pack : PackValue)
    (chest : Option (List Pile)) (view : ViewSet) (age : ℕ) (chat : List (List ℕ)) →
    StandsFor (record {
      beat = beat_now age;
      age = age_now age;
      view = Some view;
      told = told_now es view;
      window = window_kept pack chest;
      slots = pack.slots;
      cursor = pack.cursor;
    }) (present_parts land list) (seen land list es pack chest view age chat)
unfolding StandsFor
stands_seen land list es pack chest view age chat = record {
  beat = refl;
  age = refl;
  pairs = refl;
  columns = refl;
  entities = shown_told view es;
  window = kept_seen chest;
  pack = refl;
  cursor = refl;
}
  where
    kept_seen : (o : Option (List Pile)) →
        window_seen pack o ≡ option_map seen_window (window_kept pack o)
    kept_seen None = refl
    kept_seen (Some piles) = refl
