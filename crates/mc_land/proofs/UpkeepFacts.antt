-- What a land keeps for speed alone, by what is done to its columns.
use Rattle.std.proofs.Common.{◌≡◌, ℕ, ◌<◌, ◌≤◌, ◌&&◌, ◌||◌, not, Bool, true, false, cond}
use Rattle.std.proofs.Common.{eqb, nat_eq, Result, Ok, Err, OnOk, OnErr}
use Rattle.std.proofs.Common.{List, [], ◌∷◌, ◌++◌, length, map, get_or, Option, Some, None, refl, sym}
use Rattle.std.proofs.Common.{ap, ◌∙◌, arith}
use Rattle.std.proofs.lemmas.Bool.Decides.{nat_tests}
use Rattle.std.proofs.lemmas.Bool.{true≢false}
use Rattle.std.proofs.lemmas.List.{get_or-map, length-map, length-append, get_or_append_left}
use Rattle.std.proofs.lemmas.List.{ext_get_or}
use Rattle.std.specs.declared.cmp.Ordering.{Ordering}
use Rattle.std.specs.declared.cmp.Ordering.TheVariants.{Equal}
use Rattle.std.specs.Ordering.{is_eq, eq_by_cmp, int_eq}
use Rattle.std.specs.Bool.{Decides}
use Rattle.std.specs.Cmp.Lexicographic.{pointwise}
use Rattle.std.proofs.lemmas.Slice.Eq.{slice_eq-Decides}
use Rattle.std.proofs.lemmas.Bool.Decides.{Decides-and, Decides-eqb, Decides-int_eq, Decides-like}
use Rattle.std.specs.Cmp.{tied_itself, eq_by_cmp_equiv}
use Rattle.std.specs.List.{AllByRecursion}
use Rattle.std.specs.List.Sorted.{IsStrictlySortedBy}
use Rattle.std.specs.Option.{option_map}
use Rattle.std.specs.FinMap.{find}
use Rattle.mc_column.specs.Cells.{ColumnValue}
use Rattle.mc_land.specs.declared.terrain.Terrain.{Terrain}
use Rattle.mc_land.specs.declared.land.upkeep.Upkeep.{Upkeep}
use Rattle.mc_land.specs.Places.{IsPlace, Place, place_cmp}
use Rattle.mc_land.specs.KeptLand.{Chests, kept_land, placed, IsFresh, IsIndexed, IsKeptLand, IsPut}
use Rattle.mc_land.specs.Land.{dirty_in}
use Rattle.mc_land.specs.Ready.{ReadyValue, settled_ready}
use Rattle.mc_land.specs.ReadyCode.{set_at}
use Rattle.mc_land.specs.Shed.{IsSettled, View}
use Rattle.mc_land.specs.ShedCode.{AreKept, IsShed, is_kept}
use Rattle.mc_land.specs.Touched.{AreTouched}
use Rattle.mc_land.specs.Upkeep.{AreKnown, IsUpkeep, IsWhole, has, is_touched, settled_at}
use Rattle.mc_land.proofs.Orders.{places_total, exact_places}
use Rattle.mc_land.proofs.ChangeFacts.{find_push, placed_push}
use Rattle.mc_land.proofs.KeptLandFacts.{find_map, found_indexed}
use Rattle.mc_land.proofs.LookFacts.{dirty_none, dirty_ready}
use Rattle.mc_land.proofs.SetFacts.{elsewhere, found_place, placed_map, set_place}
use Rattle.mc_land.proofs.ShedFacts.{as_settled, found_before}
use Rattle.mc_land.proofs.TouchedFacts.{touched_none}

is_equal : (o : Ordering) → is_eq o ≡ true → o ≡ Equal
is_equal o e = grind (arith, nat_tests)

some_ready : (a b : ReadyValue) → Some a ≡ Some b → a ≡ b
some_ready a b e = cc

-- ---- views

same_view : (a b : View) → Decides ((int_eq a.0 b.0 && int_eq a.1 b.1) && nat_eq a.2 b.2) (a ≡ b)
same_view a b = Decides-like ((int_eq a.0 b.0 && int_eq a.1 b.1) && nat_eq a.2 b.2)
    (λ h i. (h.0.0 i, h.0.1 i, h.1 i))
    (λ e. ((ap (λ (v : View). v.0) e, ap (λ (v : View). v.1) e), ap (λ (v : View). v.2) e))
    (Decides-and (int_eq a.0 b.0 && int_eq a.1 b.1) (nat_eq a.2 b.2)
    (Decides-and (int_eq a.0 b.0) (int_eq a.1 b.1) (Decides-int_eq a.0 b.0)
    (Decides-int_eq a.1 b.1)) (Decides-eqb a.2 b.2))

pub same_views : (old new : List View) (same : Bool) →
    same ≡ pointwise (λ (a b : View). (int_eq a.0 b.0 && int_eq a.1 b.1) && nat_eq a.2 b.2) old new
    → same ≡ true → old ≡ new
same_views old new same is t = (slice_eq-Decides same_view old new same is).0 t

-- ---- one column

-- no cell is dirty where the states are those that were settled
untouched : (ready : ReadyValue) → ready.settled.states ≡ ready.present.states →
    is_touched (Some ready) ≡ false
untouched ready same = rw (same, touched_none ready.present.states) refl

-- a column that is as it was settled
pub whole_same : (ready : ReadyValue) → ready.present ≡ ready.settled → settled_ready ready ≡ ready
whole_same ready e i = record {
  place = ready.place;
  terrain = ready.terrain;
  present = ready.present;
  settled = e i;
}

-- ---- no column

pub upkeep_new : (columns : List ReadyValue) (upkeep : Upkeep) → columns ≡ [] →
    upkeep.touched.keys ≡ [] → upkeep.staying ≡ 0 → IsUpkeep columns upkeep
upkeep_new columns upkeep none empty zero' = record {
  known = record {
    are = λ q. rw (none, empty) refl;
    whole = λ q ready found. let h : find place_cmp q [] ≡ Some ready = rw none at found in
        absurd cc;
  };
  within = omega (arith, zero');
  stay = λ k d lt. absurd (omega (arith, zero'));
}

-- ---- a column is made ready

fresh_whole : (terrain : Terrain) (place : Place) (ready : ReadyValue) →
    IsFresh terrain place ready → (settled_ready ready ≡ ready) × (is_touched (Some ready) ≡ false)
fresh_whole terrain place ready fresh =
    let same : ready.present ≡ ready.settled = fresh.present_own ∙ sym fresh.settled_own in (
      whole_same ready same,
      untouched ready (sym (ap (λ (c : ColumnValue). c.states) same)),
    )

pub known_push : (terrain : Terrain) (place : Place) (columns : List ReadyValue)
    (ready : ReadyValue) (touched : List Place) → IsFresh terrain place ready →
    find place_cmp place (placed columns) ≡ None → AreKnown columns touched →
    AreKnown (columns ++ ready ∷ []) touched
known_push terrain place columns ready touched fresh none known = record {
  are = λ q. known.are q ∙ sym (ap is_touched (found q) ∙ same q);
  whole = λ q r e. whole_push q r (sym (found q) ∙ e);
}
  where
    found : (q : Place) → find place_cmp q (placed (columns ++ ready ∷ [])) ≡
        cond (eq_by_cmp place_cmp q place) (Some ready) (find place_cmp q (placed columns))
    found q = ap (find place_cmp q) (placed_push columns ready)
        ∙ ap (λ (p : Place). find place_cmp q (placed columns ++ (p, ready) ∷ [])) fresh.at
        ∙ find_push (placed columns) place ready q none

    same : (q : Place) → is_touched (cond (eq_by_cmp place_cmp q place) (Some ready)
        (find place_cmp q (placed columns))) ≡ is_touched (find place_cmp q (placed columns))
    same q = elim (eq_by_cmp place_cmp q place) as (λ b. eq_by_cmp place_cmp q place ≡ b →
        is_touched (cond b (Some ready) (find place_cmp q (placed columns))) ≡
        is_touched (find place_cmp q (placed columns))) [
          | true ↦ λ t.
              let here : q ≡ place = exact_places q place (is_equal (place_cmp q place) t) in
              (fresh_whole terrain place ready fresh).1
              ∙ sym (ap is_touched (ap (λ (p : Place). find place_cmp p (placed columns)) here
              ∙ none))
          | false ↦ λ t. refl
        ] refl

    whole_push : (q : Place) (r : ReadyValue) → cond (eq_by_cmp place_cmp q place) (Some ready)
        (find place_cmp q (placed columns)) ≡ Some r → IsWhole r
    whole_push q r = elim (eq_by_cmp place_cmp q place) as
        (λ b. cond b (Some ready) (find place_cmp q (placed columns)) ≡ Some r → IsWhole r) [
          | true ↦ λ e untouched'. let same : ready ≡ r = some_ready ready r e in
              rw (← same) (fresh_whole terrain place ready fresh).0
          | false ↦ λ e. known.whole q r e
        ]

pub upkeep_push : (terrain : Terrain) (place : Place) (columns new : List ReadyValue)
    (ready : ReadyValue) (upkeep : Upkeep) → new ≡ columns ++ ready ∷ [] →
    IsFresh terrain place ready → find place_cmp place (placed columns) ≡ None →
    IsUpkeep columns upkeep → IsUpkeep new upkeep
upkeep_push terrain place columns new ready upkeep is fresh none kept = rw is (record {
  known = known_push terrain place columns ready upkeep.touched.keys fresh none kept.known;
  within = omega (arith, kept.within, length-append columns (ready ∷ []));
  stay = λ k d lt. ap (is_kept upkeep.seen.items) (get_or_append_left columns (ready ∷ []) d k
      (omega (arith, kept.within))) ∙ kept.stay k d lt;
})

-- ---- a cell is set

-- the columns of other places stay
pub put_others : (terrain : Terrain) (place : Place) (i state : ℕ) (old new : List ReadyValue)
    (q : Place) → IsPut terrain place i state old new → (q ≡ place → ⊥) →
    find place_cmp q (placed new) ≡ find place_cmp q (placed old)
put_others terrain place i state old new q put ne =
    elim (find place_cmp place (placed old)) as (λ o. find place_cmp place (placed old) ≡ o →
    find place_cmp q (placed new) ≡ find place_cmp q (placed old)) [
      | None ↦ λ e. let made = put.made e in
          ap (λ (cs : List ReadyValue). find place_cmp q (placed cs)) made.2
          ∙ set_others (old ++ made.0 ∷ [])
          ∙ ap (find place_cmp q) (placed_push old made.0)
          ∙ ap (λ (p : Place). find place_cmp q (placed old ++ (p, made.0) ∷ [])) made.1.at
          ∙ find_push (placed old) place made.0 q e
          ∙ ap (λ b. cond b (Some made.0) (find place_cmp q (placed old))) (apart q ne)
      | Some ready ↦ λ e. ap (λ (cs : List ReadyValue). find place_cmp q (placed cs))
          (put.there ready e) ∙ set_others old
    ] refl
  where
    apart : (q : Place) → (q ≡ place → ⊥) → eq_by_cmp place_cmp q place ≡ false
    apart q ne = elim (eq_by_cmp place_cmp q place) as (λ b. eq_by_cmp place_cmp q place ≡ b →
        b ≡ false) [
          | true ↦ λ t. absurd (ne (exact_places q place (is_equal (place_cmp q place) t)))
          | false ↦ λ t. refl
        ] refl

    as_before : (columns : List ReadyValue) (o : Option ReadyValue) →
        find place_cmp q (placed columns) ≡ o → option_map (set_at place i state) o ≡ o
    as_before columns None e = refl
    as_before columns (Some r) e = ap Some (elsewhere place i state r
        (λ h. ne (sym (found_place q columns r e) ∙ h)))

    set_others : (columns : List ReadyValue) → find place_cmp q (placed (map (set_at place i state)
        columns)) ≡ find place_cmp q (placed columns)
    set_others columns =
        ap (find place_cmp q) (placed_map (set_at place i state) columns (set_place place i state))
        ∙ find_map (set_at place i state) q (placed columns)
        ∙ as_before columns (find place_cmp q (placed columns)) refl

-- and where memory ran out all do
pub others_after : {A E : Type 0} (result : Result A E) (terrain : Terrain) (place p : Place)
    (i state : ℕ) (old new : List ReadyValue) → place ≡ p →
    OnOk result (IsPut terrain p i state old new) → OnErr result (new ≡ old) → (q : Place) →
    (q ≡ place → ⊥) → find place_cmp q (placed new) ≡ find place_cmp q (placed old)
others_after (Ok a) terrain place p i state old new same put err q ne =
    put_others terrain p i state old new q put (λ e. ne (e ∙ sym same))
others_after (Err e) terrain place p i state old new same put err q ne =
    ap (λ (cs : List ReadyValue). find place_cmp q (placed cs)) err

-- its place was put in among those with a dirty cell, and stayed there where it has one
pub upkeep_put : (old new : List ReadyValue) (was now : Upkeep) (amid : List Place)
    (place : Place) → IsUpkeep old was → now.staying ≡ 0 → ((q : Place) → (q ≡ place → ⊥) →
    find place_cmp q (placed new) ≡ find place_cmp q (placed old)) →
    ((q : Place) → eq_by_cmp place_cmp place q ≡ false → has q amid ≡ has q was.touched.keys) →
    ((q : Place) → has q now.touched.keys ≡ cond (eq_by_cmp place_cmp q place)
    (is_touched (find place_cmp place (placed new))) (has q amid)) →
    ((r : ReadyValue) → find place_cmp place (placed new) ≡ Some r → IsWhole r) → IsUpkeep new now
upkeep_put old new was now amid place kept zero' others before are whole = record {
  known = record {
    are = λ q. are q ∙ each q;
    whole = λ q r e. whole_put q r e;
  };
  within = omega (arith, zero');
  stay = λ k d lt. absurd (omega (arith, zero'));
}
  where
    apart : (q : Place) → eq_by_cmp place_cmp q place ≡ false → q ≡ place → ⊥
    apart q f e = true≢false (sym (rw e (ap is_eq (tied_itself places_total place))) ∙ f)

    each : (q : Place) → cond (eq_by_cmp place_cmp q place)
        (is_touched (find place_cmp place (placed new))) (has q amid) ≡
        is_touched (find place_cmp q (placed new))
    each q = elim (eq_by_cmp place_cmp q place) as (λ b. eq_by_cmp place_cmp q place ≡ b →
        cond b (is_touched (find place_cmp place (placed new))) (has q amid) ≡
        is_touched (find place_cmp q (placed new))) [
          | true ↦ λ t. ap (λ (p : Place). is_touched (find place_cmp p (placed new)))
              (sym (exact_places q place (is_equal (place_cmp q place) t)))
          | false ↦ λ t. before q ((eq_by_cmp_equiv places_total).symm place q ∙ t)
              ∙ kept.known.are q ∙ ap is_touched (sym (others q (apart q t)))
        ] refl

    whole_put : (q : Place) (r : ReadyValue) → find place_cmp q (placed new) ≡ Some r → IsWhole r
    whole_put q r e = elim (eq_by_cmp place_cmp q place) as
        (λ b. eq_by_cmp place_cmp q place ≡ b → IsWhole r) [
          | true ↦ λ t. whole r (ap (λ (p : Place). find place_cmp p (placed new))
              (sym (exact_places q place (is_equal (place_cmp q place) t))) ∙ e)
          | false ↦ λ t. kept.known.whole q r (sym (others q (apart q t)) ∙ e)
        ] refl

-- ---- settling

-- the columns of some places settled, one after another
abbrev pub settled_one_by_one : List Place → List ReadyValue → List ReadyValue
settled_one_by_one [] columns = columns
settled_one_by_one (place ∷ places) columns =
    settled_one_by_one places (map (settled_at place) columns)

-- a column is settled where its place is one of them
abbrev settled_among : List Place → ReadyValue → ReadyValue
settled_among places ready = cond (has ready.place places) (settled_ready ready) ready

one_more : (place : Place) (places : List Place) (columns : List ReadyValue) →
    map (settled_among places) (map (settled_at place) columns) ≡
    map (settled_among (place ∷ places)) columns
one_more place places [] = refl
one_more place places (x ∷ xs) = rw (here, one_more place places xs) refl
  where
    here : settled_among places (settled_at place x) ≡ settled_among (place ∷ places) x
    here = elim (eq_by_cmp place_cmp x.place place) as
        (λ b. settled_among places (cond b (settled_ready x) x) ≡
        cond (b || has x.place places) (settled_ready x) x) [
          | true ↦ elim (has x.place places) as (λ b. cond b (settled_ready (settled_ready x))
              (settled_ready x) ≡ settled_ready x) [ true ↦ refl | false ↦ refl ]
          | false ↦ refl
        ]

among_all : (places : List Place) (columns : List ReadyValue) →
    settled_one_by_one places columns ≡ map (settled_among places) columns
among_all [] columns = unchanged columns
  where
    unchanged : (columns : List ReadyValue) → columns ≡ map (settled_among []) columns
    unchanged [] = refl
    unchanged (x ∷ xs) = ap (λ (t : List ReadyValue). x ∷ t) (unchanged xs)
among_all (place ∷ places) columns =
    among_all places (map (settled_at place) columns) ∙ one_more place places columns

-- where all in which a cell is dirty are among them, all columns are settled
pub all_settled : (columns : List ReadyValue) (index : List (Place × ℕ)) (touched : List Place) →
    IsIndexed columns index → AreKnown columns touched → settled_one_by_one touched columns ≡
    map settled_ready columns
all_settled [] index touched is known = among_all touched []
all_settled (d ∷ ds) index touched is known = among_all touched (d ∷ ds) ∙
    ext_get_or d (map (settled_among touched) (d ∷ ds)) (map settled_ready (d ∷ ds))
    (length-map (d ∷ ds) (settled_among touched) ∙ sym (length-map (d ∷ ds) settled_ready))
    (λ k lt. let inside : k < length (d ∷ ds) = rw (length-map (d ∷ ds) (settled_among touched)) at
    lt in
    get_or-map (settled_among touched) (d ∷ ds) k d d inside ∙ each k inside ∙
    sym (get_or-map settled_ready (d ∷ ds) k d d inside))
  where
    each : (k : ℕ) → k < length (d ∷ ds) → settled_among touched (get_or (d ∷ ds) k d) ≡
        settled_ready (get_or (d ∷ ds) k d)
    each k lt =
        let r : ReadyValue = get_or (d ∷ ds) k d in
        let found : find place_cmp r.place (placed (d ∷ ds)) ≡ Some r =
        found_indexed r.place (d ∷ ds) index k d is (is.indexed k d lt) in
        elim (has r.place touched) as (λ b. has r.place touched ≡ b →
        cond b (settled_ready r) r ≡ settled_ready r) [
          | true ↦ λ t. refl
          | false ↦ λ t. sym (known.whole r.place r found
              (sym (known.are r.place ∙ ap is_touched found) ∙ t))
        ] refl

pub upkeep_settled : (columns new : List ReadyValue) (was now : Upkeep) →
    new ≡ map settled_ready columns → now.touched.keys ≡ [] → now.staying ≡ was.staying →
    now.seen.items ≡ was.seen.items → IsUpkeep columns was → IsUpkeep new now
upkeep_settled columns new was now is empty same seen kept = rw is (record {
  known = record {
    are = λ q. rw empty (sym (ap is_touched (found q) ∙ none_touched
        (find place_cmp q (placed columns))));
    whole = λ q r e. whole_settled (find place_cmp q (placed columns)) r (sym (found q) ∙ e);
  };
  within = omega (arith, kept.within, same, length-map columns settled_ready);
  stay = λ k d lt. rw seen (ap (is_kept was.seen.items) (get_or-map settled_ready columns k d d
      (omega (arith, kept.within, same))) ∙ kept.stay k d (omega (arith, same)));
})
  where
    found : (q : Place) → find place_cmp q (placed (map settled_ready columns)) ≡
        option_map settled_ready (find place_cmp q (placed columns))
    found q = ap (find place_cmp q) (placed_map settled_ready columns (λ r. refl))
        ∙ find_map settled_ready q (placed columns)

    none_touched : (o : Option ReadyValue) → is_touched (option_map settled_ready o) ≡ false
    none_touched None = refl
    none_touched (Some r) = untouched (settled_ready r) refl

    whole_settled : (o : Option ReadyValue) (r : ReadyValue) → option_map settled_ready o ≡
        Some r → IsWhole r
    whole_settled None r e untouched' = absurd cc
    whole_settled (Some s) r e untouched' =
        let same : settled_ready s ≡ r = some_ready (settled_ready s) r e in rw (← same) refl

-- ---- shedding

pub upkeep_shed : (terrain : Terrain) (old new : List ReadyValue) (chests : Chests)
    (views : List View) (was now : Upkeep) → IsKeptLand terrain (placed old) chests →
    IsSettled (kept_land terrain (placed old) chests) → IsShed views old new →
    now.touched.keys ≡ was.touched.keys → now.staying ≤ length new →
    AreKept now.seen.items new now.staying → IsUpkeep old was → IsUpkeep new now
upkeep_shed terrain old new chests views was now kept settled shed same within stay upkeep =
    record {
      known = record {
        are = λ q. ap (has q) same ∙ upkeep.known.are q ∙ none_before q ∙ sym (none_after q
            (find place_cmp q (placed new)) refl);
        whole = λ q r e. upkeep.known.whole q r (found_before views old new q r shed e);
      };
      within = within;
      stay = stay;
    }
  where
    none_of : (q : Place) (o : Option ReadyValue) → find place_cmp q (placed old) ≡ o →
        is_touched o ≡ false
    none_of q None e = refl
    none_of q (Some r) e =
        untouched r (as_settled terrain (placed old) chests q r kept settled e)

    none_before : (q : Place) → is_touched (find place_cmp q (placed old)) ≡ false
    none_before q = none_of q (find place_cmp q (placed old)) refl

    none_after : (q : Place) (o : Option ReadyValue) → find place_cmp q (placed new) ≡ o →
        is_touched (find place_cmp q (placed new)) ≡ false
    none_after q None e = ap is_touched e
    none_after q (Some r) e = ap is_touched e ∙ none_of q (Some r)
        (found_before views old new q r shed e)

-- ---- which columns have a dirty cell

pub touched_are : (terrain : Terrain) (columns : List ReadyValue) (chests : Chests)
    (touched : List Place) → IsKeptLand terrain (placed columns) chests →
    AreKnown columns touched → IsStrictlySortedBy place_cmp touched →
    AreTouched (kept_land terrain (placed columns) chests) touched
touched_are terrain columns chests touched kept known rising = record {
  rising = rising;
  inside = all_inside touched (λ q e. e);
  all = λ q. known.are q ∙ dirty q (find place_cmp q (placed columns)) refl;
}
  where
    dirty : (q : Place) (o : Option ReadyValue) → find place_cmp q (placed columns) ≡ o →
        is_touched (find place_cmp q (placed columns)) ≡
        not (eqb (length (dirty_in (kept_land terrain (placed columns) chests) q)) 0)
    dirty q None e = ap is_touched e ∙ rw (← dirty_none terrain (placed columns) chests q kept e)
        refl
    dirty q (Some r) e = ap is_touched e
        ∙ rw (← dirty_ready terrain (placed columns) chests q r kept e) refl

    place_of : (q : Place) (o : Option ReadyValue) → find place_cmp q (placed columns) ≡ o →
        is_touched o ≡ true → IsPlace q
    place_of q None e t = absurd cc
    place_of q (Some r) e t = (kept.own q r e).inside

    all_inside : (places : List Place) → ((q : Place) → has q places ≡ true → has q touched ≡ true)
        → AllByRecursion IsPlace places
    all_inside [] among = tt
    all_inside (p ∷ ps) among = (
      place_of p (find place_cmp p (placed columns)) refl
          (sym (known.are p) ∙ among p (ap (λ b. b || has p ps)
          (ap is_eq (tied_itself places_total p)))),
      all_inside ps (λ q e. among q (either q (eq_by_cmp place_cmp q p) e)),
    )
      where
        either : (q : Place) (b : Bool) → has q ps ≡ true → (b || has q ps) ≡ true
        either q true e = refl
        either q false e = e
