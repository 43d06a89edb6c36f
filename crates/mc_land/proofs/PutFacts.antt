-- A kept land where a cell is set, whole.
use Rattle.std.proofs.Common.{◌≡◌, ℕ, ◌<◌, Bool, true, false, cond, List, [], ◌∷◌, ◌++◌, map}
use Rattle.std.proofs.Common.{Option, Some, None, refl, sym, subst, ap, ◌∙◌, arith}
use Rattle.std.specs.declared.cmp.Ordering.TheVariants.{Less, Equal, Greater}
use Rattle.std.specs.Ordering.{is_eq, eq_by_cmp}
use Rattle.std.specs.Cmp.{tied_itself}
use Rattle.std.specs.Option.{is_some}
use Rattle.std.specs.List.Sorted.{IsStrictlySortedBy}
use Rattle.std.specs.FinMap.{FinMap, find, get, insert, remove, from_entries, get-insert}
use Rattle.std.specs.FinMap.{get-remove, get-from_entries, same_map}
use Rattle.mc_column.specs.Sizes.{cells}
use Rattle.mc_slots.specs.declared.pile.Pile.{Pile}
use Rattle.mc_slots.specs.Chest.{empty_chest}
use Rattle.mc_land.specs.declared.terrain.Terrain.{Terrain}
use Rattle.mc_land.specs.Places.{Place, Key, place_cmp, key_cmp, key_of, is_inside, is_height}
use Rattle.std.specs.Prelude.{unsigned_abs}
use Rattle.std.specs.Map.{lookup}
use Rattle.std.proofs.Common.{◌&&◌}
use Rattle.std.proofs.lemmas.Bool.Decides.{nat_tests}
use Rattle.std.proofs.lemmas.Bool.{ltb-true}
use lib.IntN.{ℤ, pos, negsuc}
use Rattle.mc_land.proofs.PlaceFacts.{key_within}
use Rattle.mc_land.specs.Land.{LandValue, block, state_at, edited, is_chest, chests_after}
use Rattle.mc_land.specs.Land.{with_block, with_ready}
use Rattle.mc_land.specs.Kept.{kept_edits}
use Rattle.mc_land.specs.KeptLand.{Chests, placed, present_states, kept_land, IsKeptLand, IsPut}
use Rattle.mc_land.specs.Ready.{ReadyValue}
use Rattle.mc_land.specs.ReadyCode.{set_at}
use Rattle.mc_land.proofs.Orders.{places_total, keys_total, exact_keys}
use Rattle.mc_land.proofs.KeptLandFacts.{apart}
use Rattle.mc_land.proofs.ChangeFacts.{ready_stays, push_land, push_keeps, find_push, placed_push}
use Rattle.mc_land.proofs.SetFacts.{all_set, placed_map, set_place, edits_set, settled_set}
use Rattle.mc_land.proofs.SetFacts.{places_same, state_edited, own_set}

-- ---- the chests

-- whether there is a chest at a cell, after another cell or the same was set
chest_there : (chests : FinMap key_cmp (List Pile)) (key q : Key) (old new : ℕ) →
    is_some (get chests key) ≡ is_chest old → is_some (get (chests_after chests key old new) q) ≡
    cond (eq_by_cmp key_cmp q key) (is_chest new) (is_some (get chests q))
chest_there chests key q old new was =
    elim (is_chest new) as
    (λ b. is_some (get (cond b (cond (is_chest old) chests (insert chests key empty_chest))
    (remove chests key)) q) ≡ cond (eq_by_cmp key_cmp q key) b (is_some (get chests q))) [
      | true ↦ elim (is_chest old) as (λ b. is_some (get chests key) ≡ b →
          is_some (get (cond b chests (insert chests key empty_chest)) q) ≡
          cond (eq_by_cmp key_cmp q key) true (is_some (get chests q))) [
            | true ↦ λ there. elim (key_cmp q key) as (λ o. key_cmp q key ≡ o →
                is_some (get chests q) ≡ cond (is_eq o) true (is_some (get chests q))) [
                  | Less ↦ λ e. refl
                  | Equal ↦ λ e. ap (λ (k : Key). is_some (get chests k)) (exact_keys q key e) ∙
                      there
                  | Greater ↦ λ e. refl
                ] refl
            | false ↦ λ none. rw (get-insert keys_total chests key empty_chest q)
                (elim (eq_by_cmp key_cmp q key) as
                (λ b. is_some (cond b (Some empty_chest) (get chests q)) ≡
                cond b true (is_some (get chests q))) [ true ↦ refl | false ↦ refl ])
          ] was
      | false ↦ rw (get-remove keys_total chests key q) (elim (eq_by_cmp key_cmp q key) as
          (λ b. is_some (cond b None (get chests q)) ≡ cond b false (is_some (get chests q)))
          [ true ↦ refl | false ↦ refl ])
    ]

-- the chests that are kept after a cell was set
pub record AreAfter (chests after : Chests) (key : Key) (old new : ℕ) : Type 0 where
  pub ordered : IsStrictlySortedBy key_cmp (map (λ e. e.0) after)
  pub same : (q : Key) → find key_cmp q after ≡
      get (chests_after (from_entries {R = key_cmp} chests) key old new) q

chests_is : (chests after : Chests) (key : Key) (old new : ℕ) → AreAfter chests after key old new →
    from_entries {R = key_cmp} after ≡ chests_after (from_entries {R = key_cmp} chests) key old new
chests_is chests after key old new are =
    same_map keys_total exact_keys (from_entries {R = key_cmp} after)
    (chests_after (from_entries {R = key_cmp} chests) key old new)
    (λ q. get-from_entries keys_total after q ∙ are.same q)

-- ---- a cell of a column that is ready

abbrev block_set : LandValue → Key → ℕ → LandValue
block_set land key state = record land {
  edits = edited land.terrain land.edits key state;
  chests = chests_after land.chests key (state_at land.terrain land.edits key) state;
}

-- the state of a cell as it is kept
abbrev kept_state : Terrain → List ReadyValue → Key → ℕ
kept_state terrain columns key =
    state_at terrain (kept_edits terrain (present_states (placed columns))) key

set_land : (terrain : Terrain) (columns : List ReadyValue) (chests after : Chests) (place : Place)
    (i state : ℕ) (ready : ReadyValue) → IsKeptLand terrain (placed columns) chests →
    find place_cmp place (placed columns) ≡ Some ready → i < cells →
    AreAfter chests after (place, i) (kept_state terrain columns (place, i)) state →
    kept_land terrain (placed (map (set_at place i state) columns)) after ≡
    block_set (kept_land terrain (placed columns) chests) (place, i) state
set_land terrain columns chests after place i state ready kept found lt are =
    let entries : placed (map (set_at place i state) columns) ≡
    all_set place i state (placed columns) = placed_map (set_at place i state) columns
    (set_place place i state) in
    rw (
      entries,
      edits_set terrain columns place i state ready kept.columns_apart found
          (kept.own place ready found).present_sizes lt,
      settled_set terrain (placed columns) place i
          state,
      places_same (set_at place i state) (placed columns),
      chests_is chests after (
        place,
        i,
      ) (kept_state terrain columns (place, i)) state are,
    ) refl

set_keeps : (terrain : Terrain) (columns : List ReadyValue) (chests after : Chests) (place : Place)
    (i state : ℕ) (ready : ReadyValue) → IsKeptLand terrain (placed columns) chests →
    find place_cmp place (placed columns) ≡ Some ready → i < cells →
    AreAfter chests after (place, i) (kept_state terrain columns (place, i)) state →
    IsKeptLand terrain (placed (map (set_at place i state) columns)) after
set_keeps terrain columns chests after place i state ready kept found lt are =
    let entries : placed (map (set_at place i state) columns) ≡
    all_set place i state (placed columns) = placed_map (set_at place i state) columns
    (set_place place i state) in
    let edits = edits_set terrain columns place i state ready kept.columns_apart found
    (kept.own place ready found).present_sizes lt in
    rw entries (record {
      columns_apart = apart (set_at place i state) (placed columns) kept.columns_apart;
      chests_ordered = are.ordered;
      chests_inside = λ q j some. inside_after q j (sym (ap is_some (are.same (q, j)) ∙
          chest_there (from_entries {R = key_cmp} chests) (place, i) (
            q,
            j,
          ) (kept_state terrain columns (place, i)) state
          (ap is_some (get-from_entries keys_total chests (place, i)) ∙ kept.chests_are place i lt))
          ∙ some);
      own = λ q r e. own_set terrain columns place i state q r (λ s f. kept.own q s f) e;
      chests_are = λ q j inside. ap is_some (are.same (q, j)) ∙
          chest_there (from_entries {R = key_cmp} chests) (place, i) (
            q,
            j,
          ) (kept_state terrain columns (place, i)) state
          (ap is_some (get-from_entries keys_total chests (place, i)) ∙ kept.chests_are place i lt)
          ∙ rw (
            edits,
            state_edited terrain (kept_edits terrain (present_states (placed columns)))
                (place, i) (q, j) state,
          ) (either (eq_by_cmp key_cmp (q, j) (place, i)) state
          (kept_state terrain columns (q, j)) (is_some (get (from_entries {R = key_cmp} chests) (
            q,
            j,
          ))) (ap is_some (get-from_entries keys_total chests (q, j)) ∙
          kept.chests_are q j inside));
    })
  where
    inside_after : (q : Place) (j : ℕ) → cond (eq_by_cmp key_cmp (q, j) (place, i)) (is_chest state)
        (is_some (get (from_entries {R = key_cmp} chests) (q, j))) ≡ true → j < cells
    inside_after q j h = elim (key_cmp (q, j) (place, i)) as (λ o. key_cmp (q, j) (place, i) ≡ o →
        cond (is_eq o) (is_chest state) (is_some (get (from_entries {R = key_cmp} chests) (q, j))) ≡
        true → j < cells) [
          | Less ↦ λ e t. kept.chests_inside q j
              (sym (ap is_some (get-from_entries keys_total chests (q, j))) ∙ t)
          | Equal ↦ λ e t. let same : (q, j) ≡ (place, i) = exact_keys (q, j) (place, i) e in
              omega (arith, lt, ap (λ (k : Key). k.1) same)
          | Greater ↦ λ e t. kept.chests_inside q j
              (sym (ap is_some (get-from_entries keys_total chests (q, j))) ∙ t)
        ] refl h

    either : (b : Bool) (x y : ℕ) (there : Bool) → there ≡ is_chest y → cond b (is_chest x) there ≡
        is_chest (cond b x y)
    either true x y there e = refl
    either false x y there e = e

-- ---- a cell, wherever it is

pub put_land : (terrain : Terrain) (old new : List ReadyValue) (chests after : Chests)
    (place : Place) (i state : ℕ) → IsKeptLand terrain (placed old) chests →
    IsPut terrain place i state old new → i < cells →
    AreAfter chests after (place, i) (kept_state terrain old (place, i)) state →
    (kept_land terrain (placed new) after ≡ with_block (kept_land terrain (placed old) chests)
    (place, i) state) × IsKeptLand terrain (placed new) after
put_land terrain old new chests after place i state kept put lt are =
    by (find place_cmp place (placed old)) refl
  where
    by : (o : Option ReadyValue) → find place_cmp place (placed old) ≡ o →
        (kept_land terrain (placed new) after ≡ with_block (kept_land terrain (placed old) chests)
        (place, i) state) × IsKeptLand terrain (placed new) after
    by (Some ready) found =
        let stays : kept_land terrain (placed old) chests ≡
        with_ready (kept_land terrain (placed old) chests) place =
        ready_stays terrain (placed old) chests place ready found in
        rw (put.there ready found) (
          set_land terrain old chests after place i state ready kept found lt are ∙
              ap (λ (land : LandValue). block_set land (place, i) state) stays,
          set_keeps terrain old chests after place i state ready kept found lt are,
        )
    by None none =
        let made = put.made none in
        let fresh = made.0 in
        let columns : List ReadyValue = old ++ fresh ∷ [] in
        let pushed : kept_land terrain (placed (old ++ fresh ∷ [])) chests ≡
        with_ready (kept_land terrain (placed old) chests) place =
        push_land terrain old (old ++ fresh ∷ []) chests place fresh refl made.1 kept none in
        let keeps = push_keeps terrain old (old ++ fresh ∷ []) chests place fresh refl made.1 kept
        none in
        let none' : find place_cmp fresh.place (placed old) ≡ None =
        ap (λ (p : Place). find place_cmp p (placed old)) made.1.at ∙ none in
        let here : eq_by_cmp place_cmp place fresh.place ≡ true =
        ap (λ (p : Place). eq_by_cmp place_cmp place p) made.1.at ∙
        ap is_eq (tied_itself places_total place) in
        let found : find place_cmp place (placed (old ++ fresh ∷ [])) ≡ Some fresh =
        ap (find place_cmp place) (placed_push old fresh) ∙ find_push (placed old) fresh.place
        fresh place none' ∙ rw here refl in
        let same : kept_state terrain (old ++ fresh ∷ []) (place, i) ≡
        kept_state terrain old (place, i) =
        ap (λ (land : LandValue). state_at land.terrain land.edits (place, i)) pushed in
        let are' : AreAfter chests after (place, i) (kept_state terrain (old ++ fresh ∷ []) (
          place,
          i,
        )) state = rw same are in
        rw made.2 (
          set_land terrain (old ++ fresh ∷ []) chests after place i state fresh keeps found lt are'
              ∙ ap (λ (land : LandValue). block_set land (place, i) state) pushed,
          set_keeps terrain (old ++ fresh ∷ []) chests after place i state fresh keeps found lt
              are',
        )

-- ---- which chests are kept after

-- what a tree's change says of each key
pub changed_chests : (old new : Chests) (k key q : Key) (w : Option (List Pile)) →
    lookup (λ y. is_eq (key_cmp q y)) new ≡
    cond (is_eq (key_cmp k q)) w (lookup (λ y. is_eq (key_cmp q y)) old) → k ≡ key →
    find key_cmp q new ≡ cond (eq_by_cmp key_cmp q key) w (find key_cmp q old)
changed_chests old new k key q w h e = grind (arith, nat_tests)

pub none_of : (o : Option (List Pile)) → is_some o ≡ false → o ≡ None
none_of None e = refl
none_of (Some x) e = absurd cc

-- a look-up at every key, by cases on the one
at_key : (q key : Key) (P : Bool → Type 0) → (q ≡ key → P true) → P false →
    P (eq_by_cmp key_cmp q key)
at_key q key P here other = grind (arith, nat_tests)

pub after_alike : (chests : Chests) (key : Key) (old new : ℕ) →
    IsStrictlySortedBy key_cmp (map (λ e. e.0) chests) → is_chest old ≡ is_chest new →
    is_some (find key_cmp key chests) ≡ is_chest old → AreAfter chests chests key old new
after_alike chests key old new ordered alike there = record {
  ordered = ordered;
  same = λ q. sym (each q);
}
  where
    each : (q : Key) → get (chests_after (from_entries {R = key_cmp} chests) key old new) q ≡
        find key_cmp q chests
    each q = rw alike (elim (is_chest new) as (λ b. is_chest new ≡ b →
        get (cond b (cond b (from_entries {R = key_cmp} chests)
        (insert (from_entries {R = key_cmp} chests) key empty_chest))
        (remove (from_entries {R = key_cmp} chests) key)) q ≡ find key_cmp q chests) [
          | true ↦ λ e. get-from_entries keys_total chests q
          | false ↦ λ e. get-remove keys_total (from_entries {R = key_cmp} chests) key q ∙
              at_key q key (λ b. cond b None (get (from_entries {R = key_cmp} chests) q) ≡
              find key_cmp q chests) (λ h. sym (ap (λ (k : Key). find key_cmp k chests) h ∙
              none_of (find key_cmp key chests) (there ∙ alike ∙ e))) (get-from_entries keys_total
              chests q)
        ] refl)

pub after_made : (chests after : Chests) (key : Key) (old new : ℕ) →
    IsStrictlySortedBy key_cmp (map (λ e. e.0) after) → is_chest old ≡ false → is_chest new ≡ true →
    ((q : Key) → find key_cmp q after ≡ cond (eq_by_cmp key_cmp q key) (Some empty_chest)
    (find key_cmp q chests)) → AreAfter chests after key old new
after_made chests after key old new ordered was is each = record {
  ordered = ordered;
  same = λ q. each q ∙
      sym (rw (was, is) (get-insert keys_total (from_entries {R = key_cmp} chests) key empty_chest q
      ∙ ap (λ (o : Option (List Pile)). cond (eq_by_cmp key_cmp q key) (Some empty_chest) o)
      (get-from_entries keys_total chests q)));
}

pub after_gone : (chests after : Chests) (key : Key) (old new : ℕ) →
    IsStrictlySortedBy key_cmp (map (λ e. e.0) after) → is_chest new ≡ false →
    ((q : Key) → find key_cmp q after ≡ cond (eq_by_cmp key_cmp q key) None (find key_cmp q chests))
    → AreAfter chests after key old new
after_gone chests after key old new ordered is each = record {
  ordered = ordered;
  same = λ q. each q ∙ sym (rw is (get-remove keys_total (from_entries {R = key_cmp} chests) key q ∙
      ap (λ (o : Option (List Pile)). cond (eq_by_cmp key_cmp q key) None o)
      (get-from_entries keys_total chests q)));
}

-- a chest that was made and taken away again
pub back_again : (chests made back : Chests) (key : Key) → find key_cmp key chests ≡ None →
    ((q : Key) → find key_cmp q made ≡ cond (eq_by_cmp key_cmp q key) (Some empty_chest)
    (find key_cmp q chests)) →
    ((q : Key) → find key_cmp q back ≡ cond (eq_by_cmp key_cmp q key) None (find key_cmp q made)) →
    (q : Key) → find key_cmp q back ≡ find key_cmp q chests
back_again chests made back key none puts takes q = grind (arith, nat_tests)

pub same_chests : (terrain : Terrain) (columns new : List ReadyValue) (chests after : Chests) →
    new ≡ columns → IsKeptLand terrain (placed columns) chests →
    IsStrictlySortedBy key_cmp (map (λ e. e.0) after) →
    ((q : Key) → find key_cmp q after ≡ find key_cmp q chests) →
    (kept_land terrain (placed new) after ≡ kept_land terrain (placed columns) chests) ×
    IsKeptLand terrain (placed new) after
same_chests terrain columns new chests after is kept ordered same =
    let maps : from_entries {R = key_cmp} after ≡ from_entries {R = key_cmp} chests =
    same_map keys_total exact_keys (from_entries {R = key_cmp} after)
    (from_entries {R = key_cmp} chests) (λ q. get-from_entries keys_total after q ∙ same q ∙
    sym (get-from_entries keys_total chests q)) in
    rw is (
      rw maps refl,
      record {
        columns_apart = kept.columns_apart;
        chests_ordered = ordered;
        chests_inside = λ place i some. kept.chests_inside place i
            (sym (ap is_some (same (place, i))) ∙ some);
        own = kept.own;
        chests_are = λ place i lt. ap is_some (same (place, i)) ∙ kept.chests_are place i lt;
      },
    )

-- ---- a cell by its numbers

block_kept : (terrain : Terrain) (columns : List ReadyValue) (chests : Chests) (x y z : ℤ) →
    is_height y ≡ true → block (kept_land terrain (placed columns) chests) x y z ≡
    kept_state terrain columns (key_of x (unsigned_abs y) z)
block_kept terrain columns chests x (pos n) z inside = rw inside refl
block_kept terrain columns chests x (negsuc n) z inside = absurd cc

height_below : (y : ℤ) → is_height y ≡ true → unsigned_abs y < 256
height_below (pos n) e = ltb-true n 256 e
height_below (negsuc n) e = absurd cc

first_of : (a b : Bool) → (a && b) ≡ true → a ≡ true
first_of true b e = refl
first_of false b e = absurd cc

pub high_enough : (x y z : ℤ) → is_inside x y z ≡ true → is_height y ≡ true
high_enough x y z e = grind (arith, nat_tests)

-- a chest stands at a cell exactly where its block is one's
pub chest_at : (terrain : Terrain) (columns : List ReadyValue) (chests : Chests) (x y z : ℤ) →
    is_inside x y z ≡ true → IsKeptLand terrain (placed columns) chests →
    is_some (find key_cmp (key_of x (unsigned_abs y) z) chests) ≡
    is_chest (block (kept_land terrain (placed columns) chests) x y z)
chest_at terrain columns chests x y z inside kept =
    let high = high_enough x y z inside in
    kept.chests_are (key_of x (unsigned_abs y) z).0 (key_of x (unsigned_abs y) z).1
    (key_within x z (unsigned_abs y) (height_below y high)) ∙
    ap is_chest (sym (block_kept terrain columns chests x y z high))

pub put_cell : (terrain : Terrain) (old new : List ReadyValue) (chests after : Chests) (x y z : ℤ)
    (state : ℕ) → is_inside x y z ≡ true → IsKeptLand terrain (placed old) chests →
    IsPut terrain (key_of x (unsigned_abs y) z).0 (key_of x (unsigned_abs y) z).1 state old new →
    AreAfter chests after (key_of x (unsigned_abs y) z)
    (block (kept_land terrain (placed old) chests) x y z) state →
    (kept_land terrain (placed new) after ≡ with_block (kept_land terrain (placed old) chests)
    (key_of x (unsigned_abs y) z) state) × IsKeptLand terrain (placed new) after
put_cell terrain old new chests after x y z state inside kept put are =
    let high = high_enough x y z inside in
    let are' : AreAfter chests after (key_of x (unsigned_abs y) z)
    (kept_state terrain old (key_of x (unsigned_abs y) z)) state =
    subst (λ (n : ℕ). AreAfter chests after (key_of x (unsigned_abs y) z) n state)
    (block_kept terrain old chests x y z high) are in
    put_land terrain old new chests after (key_of x (unsigned_abs y) z).0 (key_of x (unsigned_abs y)
    z).1 state kept put (key_within x z (unsigned_abs y) (height_below y high)) are'
