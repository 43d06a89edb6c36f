-- A kept land where a column is made ready, and where it is settled.
use Rattle.std.proofs.Common.{◌≡◌, ℕ, ◌<◌, true, false, cond, List, [], ◌∷◌, ◌++◌, length, map}
use Rattle.std.proofs.Common.{get_or, Option, Some, None, refl, sym, subst, ap, ◌∙◌, arith, inl}
use Rattle.std.proofs.Common.{inr, ◌||◌}
use Rattle.std.proofs.lemmas.Bool.Decides.{nat_tests}
use Rattle.std.specs.declared.cmp.Ordering.{Ordering}
use Rattle.std.specs.declared.cmp.Ordering.TheVariants.{Less, Equal, Greater}
use Rattle.std.specs.Ordering.{is_eq, eq_by_cmp}
use Rattle.std.specs.Cmp.{tied_itself, eq_by_cmp_equiv}
use Rattle.std.specs.Option.{option_map, is_some}
use Rattle.std.specs.FinMap.{find}
use Rattle.std.specs.FinMap.Entries.{find-append}
use Rattle.std.specs.FinSet as set
use Rattle.std.proofs.lemmas.Bool.{cases_lt}
use Rattle.std.proofs.lemmas.List.{get_or-map, length-map, length-append, get_or_append_left}
use Rattle.std.proofs.lemmas.List.{get_or_push}
use Rattle.std.proofs.lemmas.List.FromFn.{get_or-map-range_with_len, length-map-range_with_len}
use Rattle.mc_column.specs.Sizes.{cells}
use Rattle.mc_column.specs.Cells.{ColumnValue, HasSizes}
use Rattle.mc_land.specs.declared.terrain.Terrain.{Terrain}
use Rattle.mc_land.specs.Places.{IsPlace, Place, place_cmp}
use Rattle.mc_land.specs.Land.{terrain_at, settled_land, with_ready}
use Rattle.mc_land.specs.Grown.{own_column}
use Rattle.mc_land.specs.Kept.{kept_edits, IsApart}
use Rattle.mc_land.specs.KeptLand.{Columns, Chests, placed, present_states, settled_states}
use Rattle.mc_land.specs.KeptLand.{kept_land, IsFresh, IsIndexed, IsOwn, IsKeptLand}
use Rattle.mc_land.specs.Ready.{ReadyValue, settled_ready}
use Rattle.mc_land.proofs.Orders.{places_total, exact_places}
use Rattle.mc_land.proofs.LandFacts.{Puts, ready_edits}
use Rattle.mc_land.proofs.KeptLandFacts.{apart, find_map, found_indexed}
use Rattle.mc_land.proofs.LookFacts.{present, settled, is_ready}

-- ---- settling

abbrev settle_each : Columns → Columns
settle_each columns = map (λ e. (e.0, settled_ready e.1)) columns

placed_settled : (columns : List ReadyValue) → placed (map settled_ready columns) ≡
    settle_each (placed columns)
placed_settled [] = refl
placed_settled (x ∷ xs) = ap (λ (t : Columns). (x.place, settled_ready x) ∷ t) (placed_settled xs)

present_stays : (columns : Columns) → present_states (settle_each columns) ≡ present_states columns
present_stays [] = refl
present_stays (e ∷ es) = grind (arith, nat_tests, present_stays es)

settled_is : (columns : Columns) → settled_states (settle_each columns) ≡ present_states columns
settled_is [] = refl
settled_is (e ∷ es) = grind (arith, nat_tests, settled_is es)

places_stay : (columns : Columns) → map (λ e. e.0) (settle_each columns) ≡ map (λ e. e.0) columns
places_stay [] = refl
places_stay (e ∷ es) = ap (λ (t : List Place). e.0 ∷ t) (places_stay es)

land_settled : (terrain : Terrain) (columns : Columns) (chests : Chests) →
    kept_land terrain (settle_each columns) chests ≡ settled_land (kept_land terrain columns chests)
land_settled terrain columns chests =
    grind (arith, nat_tests, present_stays, settled_is, places_stay)

kept_settled : (terrain : Terrain) (columns : Columns) (chests : Chests) →
    IsKeptLand terrain columns chests → IsKeptLand terrain (settle_each columns) chests
kept_settled terrain columns chests kept = record {
  columns_apart = apart settled_ready columns kept.columns_apart;
  chests_ordered = kept.chests_ordered;
  chests_inside = kept.chests_inside;
  own = λ place ready found. of_settled place ready (find place_cmp place columns)
      (λ r e. kept.own place r e) refl (sym (find_map settled_ready place columns) ∙ found);
  chests_are = λ place i lt. kept.chests_are place i lt ∙ rw (present_stays columns) refl;
}
  where
    of_settled : (place : Place) (ready : ReadyValue) (o : Option ReadyValue) →
        ((r : ReadyValue) → find place_cmp place columns ≡ Some r → IsOwn terrain place r) →
        find place_cmp place columns ≡ o → option_map settled_ready o ≡ Some ready →
        IsOwn terrain place ready
    of_settled place ready None own is e = absurd cc
    of_settled place ready (Some r) own is e =
        let same : settled_ready r ≡ ready = some_is (settled_ready r) ready e in
        let o = own r is in
        subst (λ x. IsOwn terrain place x) same (record {
          inside = o.inside;
          terrain_is = o.terrain_is;
          present_sizes = o.present_sizes;
          settled_sizes =
              o.present_sizes;
          biomes = o.biomes;
        })
      where
        some_is : (a b : ReadyValue) → Some a ≡ Some b → a ≡ b
        some_is a b e = cc

indexed_settled : (columns : List ReadyValue) (index : List (Place × ℕ)) → IsIndexed columns index →
    IsIndexed (map settled_ready columns) index
indexed_settled columns index is = record {
  listed = λ place i e. rw (length-map columns settled_ready) (is.listed place i e);
  placed_at = λ place i d e. same_place columns i d (is.listed place i e) ∙
      is.placed_at place i d e;
  indexed = λ i d lt. let inside : i < length columns = rw (length-map columns settled_ready) at lt
      in ap (λ (p : Place). find place_cmp p index) (same_place columns i d inside) ∙
      is.indexed i d inside;
}
  where
    same_place : (columns : List ReadyValue) (i : ℕ) (d : ReadyValue) → i < length columns →
        (get_or (map settled_ready columns) i d).place ≡ (get_or columns i d).place
    same_place columns i d lt = ap (λ (r : ReadyValue). r.place) (get_or-map settled_ready columns i
        d d lt)

pub settle_land : (terrain : Terrain) (columns new : List ReadyValue) (chests : Chests) →
    new ≡ map settled_ready columns → kept_land terrain (placed new) chests ≡
    settled_land (kept_land terrain (placed columns) chests)
settle_land terrain columns new chests is = grind (arith, nat_tests, placed_settled, land_settled)

pub settle_keeps : (terrain : Terrain) (columns new : List ReadyValue) (index : List (Place × ℕ))
    (chests : Chests) → new ≡ map settled_ready columns →
    IsKeptLand terrain (placed columns) chests × IsIndexed columns index →
    IsKeptLand terrain (placed new) chests × IsIndexed new index
settle_keeps terrain columns new index chests is kept =
    rw (is, placed_settled columns) (
      kept_settled terrain (placed columns) chests kept.0,
      indexed_settled columns index kept.1,
    )

-- ---- making a column ready

-- a column that is there already stays
pub ready_stays : (terrain : Terrain) (columns : Columns) (chests : Chests) (place : Place)
    (ready : ReadyValue) → find place_cmp place columns ≡ Some ready →
    kept_land terrain columns chests ≡ with_ready (kept_land terrain columns chests) place
ready_stays terrain columns chests place ready found =
    let there : set.contains (kept_land terrain columns chests).ready place ≡ true =
    is_ready terrain columns chests place ∙ rw found refl in
    let same : set.insert (kept_land terrain columns chests).ready place ≡
    (kept_land terrain columns chests).ready = set.same_set places_total exact_places
    (set.insert (kept_land terrain columns chests).ready place) (kept_land terrain columns
    chests).ready (λ q. set.contains-insert places_total (kept_land terrain columns
    chests).ready place q ∙ member q there) in
    ap (λ (s : set.FinSet place_cmp). record {
      terrain = terrain;
      edits = (kept_land terrain columns chests).edits;
      settled =
          (kept_land terrain columns chests).settled;
      chests =
          (kept_land terrain columns chests).chests;
      ready = s;
    }) (sym same)
  where
    member : (q : Place) → set.contains (kept_land terrain columns chests).ready place ≡ true →
        (eq_by_cmp place_cmp q place || set.contains (kept_land terrain columns chests).ready q) ≡
        set.contains (kept_land terrain columns chests).ready q
    member q there = elim (place_cmp q place) as (λ o. place_cmp q place ≡ o →
        (is_eq o || set.contains (kept_land terrain columns chests).ready q) ≡
        set.contains (kept_land terrain columns chests).ready q) [
          | Less ↦ λ e. refl
          | Equal ↦ λ e. sym (ap
              (λ (p : Place). set.contains (kept_land terrain columns chests).ready p)
              (exact_places q place e) ∙ there)
          | Greater ↦ λ e. refl
        ] refl

pub placed_push : (columns : List ReadyValue) (ready : ReadyValue) →
    placed (columns ++ ready ∷ []) ≡ placed columns ++ (ready.place, ready) ∷ []
placed_push [] ready = refl
placed_push (x ∷ xs) ready = ap (λ (t : Columns). (x.place, x) ∷ t) (placed_push xs ready)

-- a column of a new place is found there, and the others as before
pub find_push : {X : Type 0} (columns : List (Place × X)) (place : Place) (x : X) (q : Place) →
    find place_cmp place columns ≡ None → find place_cmp q (columns ++ (place, x) ∷ []) ≡
    cond (eq_by_cmp place_cmp q place) (Some x) (find place_cmp q columns)
find_push columns place x q none = find-append place_cmp places_total columns place x q none

apart_push : (columns : Columns) (place : Place) (ready : ReadyValue) → IsApart columns →
    find place_cmp place columns ≡ None → IsApart (columns ++ (place, ready) ∷ [])
apart_push [] place ready is none = (refl, tt)
apart_push (e ∷ es) place ready is none = grind (arith, apart_push es place ready is.1, find_push)
  where
    turned : (a b : Place) → eq_by_cmp place_cmp a b ≡ false → eq_by_cmp place_cmp b a ≡ false
    turned a b e = (eq_by_cmp_equiv places_total).symm b a ∙ e

-- what is looked at in the columns with one more
puts_push : (look : ReadyValue → List ℕ) (columns : Columns) (place : Place) (ready : ReadyValue) →
    find place_cmp place columns ≡ None →
    Puts (map (λ e. (e.0, look e.1)) columns) (map (λ e. (e.0, look e.1)) (columns ++
    (place, ready) ∷ [])) place (look ready)
puts_push look columns place ready none q = grind (arith, nat_tests, find_map, find_push)

-- it has the terrain's own states, so no cell changes
edits_push : (look : ReadyValue → List ℕ) (terrain : Terrain) (columns : Columns) (place : Place)
    (ready : ReadyValue) → IsApart columns → find place_cmp place columns ≡ None →
    look ready ≡ (own_column terrain place).states →
    kept_edits terrain (map (λ e. (e.0, look e.1)) (columns ++ (place, ready) ∷ [])) ≡
    kept_edits terrain (map (λ e. (e.0, look e.1)) columns)
edits_push look terrain columns place ready is none own =
    ready_edits terrain (map (λ e. (e.0, look e.1)) columns) (map (λ e. (e.0, look e.1)) (columns ++
    (place, ready) ∷ [])) place (look ready) (apart look columns is) (apart look (columns ++
    (place, ready) ∷ []) (apart_push columns place ready is none)) (find_map look place columns
    ∙ ap (option_map look) none) (puts_push look columns place ready none)
    (λ j lt. rw own (get_or-map-range_with_len (λ i. terrain_at terrain (place, i)) 0 cells j j
    0 lt (omega arith)))

places_push : (columns : Columns) (place : Place) (ready : ReadyValue) →
    map (λ e. e.0) (columns ++ (place, ready) ∷ []) ≡ map (λ e. e.0) columns ++ place ∷ []
places_push [] place ready = refl
places_push (e ∷ es) place ready = ap (λ (t : List Place). e.0 ∷ t) (places_push es place ready)

pub fresh_new : (terrain : Terrain) (place : Place) (column : ColumnValue) (ready : ReadyValue) →
    IsPlace place → column ≡ own_column terrain place →
    ready ≡ record { place = place; terrain = terrain; present = column; settled = column } →
    IsFresh terrain place ready
fresh_new terrain place column ready inside own is = grind (arith, nat_tests)

pub push_land : (terrain : Terrain) (columns new : List ReadyValue) (chests : Chests)
    (place : Place) (ready : ReadyValue) → new ≡ columns ++ ready ∷ [] →
    IsFresh terrain place ready → IsKeptLand terrain (placed columns) chests →
    find place_cmp place (placed columns) ≡ None → kept_land terrain (placed new) chests ≡
    with_ready (kept_land terrain (placed columns) chests) place
push_land terrain columns new chests place ready is fresh kept none =
    let entries : placed new ≡ placed columns ++ (place, ready) ∷ [] =
    rw (is, placed_push columns ready, fresh.at) refl in
    rw (
      entries,
      edits_push present terrain (placed columns) place ready kept.columns_apart none
          (ap (λ (c : ColumnValue). c.states) fresh.present_own),
      edits_push settled terrain (placed columns) place ready kept.columns_apart none
          (ap (λ (c : ColumnValue). c.states) fresh.settled_own),
      places_push (placed columns) place
          ready,
      set.from_list_push places_total exact_places (map (λ e. e.0) (placed columns)) place,
    )
    refl

pub own_sizes : (terrain : Terrain) (place : Place) → HasSizes (own_column terrain place)
own_sizes terrain place = grind (arith, nat_tests, length-map-range_with_len)

pub push_keeps : (terrain : Terrain) (columns new : List ReadyValue) (chests : Chests)
    (place : Place) (ready : ReadyValue) → new ≡ columns ++ ready ∷ [] →
    IsFresh terrain place ready → IsKeptLand terrain (placed columns) chests →
    find place_cmp place (placed columns) ≡ None → IsKeptLand terrain (placed new) chests
push_keeps terrain columns new chests place ready is fresh kept none =
    let entries : placed new ≡ placed columns ++ (place, ready) ∷ [] =
    rw (is, placed_push columns ready, fresh.at) refl in
    rw entries (record {
      columns_apart = apart_push (placed columns) place ready kept.columns_apart none;
      chests_ordered = kept.chests_ordered;
      chests_inside = kept.chests_inside;
      own = λ q r found. of_push q r (sym (find_push (placed columns) place ready q none) ∙ found);
      chests_are = λ q i lt. kept.chests_are q i lt ∙
          rw (edits_push present terrain (placed columns) place ready kept.columns_apart none
          (ap (λ (c : ColumnValue). c.states) fresh.present_own)) refl;
    })
  where
    of_push : (q : Place) (r : ReadyValue) → cond (eq_by_cmp place_cmp q place) (Some ready)
        (find place_cmp q (placed columns)) ≡ Some r → IsOwn terrain q r
    of_push q r e = elim (place_cmp q place) as (λ o. place_cmp q place ≡ o →
        cond (is_eq o) (Some ready) (find place_cmp q (placed columns)) ≡ Some r →
        IsOwn terrain q r) [
          | Less ↦ λ t h. kept.own q r h
          | Equal ↦ λ t h. fresh_own q r (exact_places q place t) (some_ready ready r h)
          | Greater ↦ λ t h. kept.own q r h
        ] refl e
      where
        some_ready : (a b : ReadyValue) → Some a ≡ Some b → a ≡ b
        some_ready a b e = cc

        fresh_own : (q : Place) (r : ReadyValue) → q ≡ place → ready ≡ r → IsOwn terrain q r
        fresh_own q r e f = rw (e, ← f) (record {
          inside = fresh.inside;
          terrain_is = fresh.terrain_is;
          present_sizes = rw fresh.present_own (own_sizes terrain place);
          settled_sizes = rw fresh.settled_own (own_sizes terrain place);
          biomes = ap (λ (c : ColumnValue). c.biomes) fresh.present_own;
        })

-- ---- where a new column stands

pub index_push : (columns : List ReadyValue) (index index' : List (Place × ℕ)) (ready : ReadyValue)
    → IsIndexed columns index → find place_cmp ready.place index ≡ None →
    ((q : Place) → find place_cmp q index' ≡ cond (eq_by_cmp place_cmp q ready.place)
    (Some (length columns)) (find place_cmp q index)) → IsIndexed (columns ++ ready ∷ []) index'
index_push columns index index' ready is none puts = record {
  listed = λ place i e. by_place place (λ o. o ≡ Some i → i < length (columns ++ ready ∷ []))
      (λ same h. let k : length columns ≡ i = same_index (length columns) i h in
      omega (arith, k, length-append columns (ready ∷ []))) (λ h. let lt = is.listed place i h in
      omega (arith, lt, length-append columns (ready ∷ []))) e;
  placed_at = λ place i d e. by_place place (λ o. o ≡ Some i →
      (get_or (columns ++ ready ∷ []) i d).place ≡ place) (λ same h.
      ap (λ (r : ReadyValue). r.place) (get_or_push columns ready d i (same_index (length columns) i
      h)) ∙ sym same) (λ h. ap (λ (r : ReadyValue). r.place) (get_or_append_left columns (ready ∷
      []) d i (is.listed place i h)) ∙ is.placed_at place i d h) e;
  indexed = λ i d lt. elim (cases_lt i (length columns)) [
    | inl inside ↦
        let same : (get_or (columns ++ ready ∷ []) i d) ≡ get_or columns i d =
        get_or_append_left columns (ready ∷ []) d i inside in
        let old = is.indexed i d inside in
        rw same (puts (get_or columns i d).place ∙ other (get_or columns i d).place i old)
    | inr past ↦
        let last : length columns ≡ i = omega (arith, length-append columns (ready ∷ []), lt) in
        rw (get_or_push columns ready d i last) (puts ready.place ∙
        rw (ap is_eq (tied_itself places_total ready.place), last) refl)
  ];
}
  where
    same_index : (a b : ℕ) → Some a ≡ Some b → a ≡ b
    same_index a b e = cc

    is_equal : (o : Ordering) → is_eq o ≡ true → o ≡ Equal
    is_equal Less e = absurd cc
    is_equal Equal e = refl
    is_equal Greater e = absurd cc

    by_place : (place : Place) (P : Option ℕ → Type 0) →
        (place ≡ ready.place → P (Some (length columns))) → P (find place_cmp place index) →
        P (find place_cmp place index')
    by_place place P here elsewhere =
        subst P (sym (puts place)) (elim (eq_by_cmp place_cmp place ready.place) as
        (λ b. eq_by_cmp place_cmp place ready.place ≡ b →
        P (cond b (Some (length columns)) (find place_cmp place index))) [
          | true ↦ λ t. here
              (exact_places place ready.place (is_equal (place_cmp place ready.place) t))
          | false ↦ λ t. elsewhere
        ] refl)

    other : (place : Place) (i : ℕ) → find place_cmp place index ≡ Some i →
        cond (eq_by_cmp place_cmp place ready.place) (Some (length columns))
        (find place_cmp place index) ≡ Some i
    other place i old = elim (eq_by_cmp place_cmp place ready.place) as (λ b. eq_by_cmp place_cmp
        place ready.place ≡ b → cond b (Some (length columns)) (find place_cmp place index) ≡
        Some i) [
          | true ↦ λ t. let clash : None ≡ Some i = sym none ∙
              ap (λ (p : Place). find place_cmp p index)
              (sym (exact_places place ready.place (is_equal (place_cmp place ready.place) t))) ∙
              old in
              absurd cc
          | false ↦ λ t. old
        ] refl

-- ---- whether a column is ready

pub ready_there : (columns : List ReadyValue) (index : List (Place × ℕ)) (place : Place)
    (o : Option ℕ) → IsIndexed columns index → o ≡ find place_cmp place index → is_some o ≡ true →
    (ready : ReadyValue) × (find place_cmp place (placed columns) ≡ Some ready)
ready_there columns index place None is e some = absurd cc
ready_there [] index place (Some i) is e some = absurd (omega (arith, is.listed place i (sym e)))
ready_there (d ∷ ds) index place (Some i) is e some =
    (get_or (d ∷ ds) i d, found_indexed place (d ∷ ds) index i d is (sym e))

pub not_there : (o : Option ℕ) → is_some o ≡ false → o ≡ None
not_there None e = refl
not_there (Some i) e = absurd cc
