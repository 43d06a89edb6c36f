-- The touched cells of a column, around one cell.
use Rattle.std.proofs.Common.{◌≡◌, ℕ, zero, suc, ◌+◌, ◌-◌, ◌<◌, ◌≤◌, ◌&&◌, nat_lt, nat_le, Bool}
use Rattle.std.proofs.Common.{true, false, cond, not, eqb, List, [], ◌∷◌, ◌++◌, length, map, get_or}
use Rattle.std.proofs.Common.{set, refl, sym, ap, ◌∙◌, arith, inl, inr}
use Rattle.std.proofs.lemmas.Bool.Decides.{nat_tests}
use Rattle.std.proofs.lemmas.Bool.{cases_eq, eq-eqb, eqb-true, lt-ltb, le-leb}
use Rattle.std.proofs.lemmas.List.{get_or-set_same, get_or-set_other, map-append, ext_get_or}
use Rattle.std.proofs.lemmas.List.{length-map, length-set}
use Rattle.std.proofs.lemmas.List.Elements.{filter-append}
use Rattle.std.specs.List.{filter, range_with_len}
use Rattle.mc_column.specs.Sizes.{cells, squares}
use Rattle.mc_column.specs.SizesLaws.{cells-is}
use Rattle.mc_land.specs.declared.ready.Touched.{Touched}
use Rattle.mc_land.specs.ReadyCode.{IsAround}
use Rattle.mc_land.specs.Ready.{has_changed, set_cell, settled_ready, touched_cell, touched_cells}
use Rattle.mc_land.specs.Grown.{own_column}
use Rattle.std.proofs.lemmas.List.FromFn.{get_or-map-range_with_len, length-map-range_with_len}
use Rattle.mc_land.specs.Places.{Place, IsPlace}
use Rattle.mc_land.specs.KeptReady.{bit_of, kept_ready, put_back, IsKeptReady}
use Rattle.mc_land.specs.Kept.{changes, is_changed}
use Rattle.mc_land.specs.Land.{terrain_at}
use Rattle.mc_land.specs.declared.terrain.Terrain.{Terrain}
use Rattle.mc_column.specs.Cells.{ColumnValue, with_state, cell_index}
use Rattle.std.specs.List.Sorted.{IsPartitionedBy}
use Rattle.mc_land.proofs.TouchFacts.{AreAccounted, around_sorted}

-- a range is what comes before one of its numbers, that number, and what comes after it
range_parts : (a n i : ℕ) → i < n → range_with_len a n ≡ range_with_len a i ++
    ((a + i) ∷ range_with_len (a + i + 1) (n - i - 1))
range_parts a zero i lt = absurd (omega arith)
range_parts a (suc n) zero lt = grind (arith, nat_tests)
range_parts a (suc n) (suc i) lt = grind (arith, nat_tests, range_parts (a + 1) n i (omega arith))

-- what passes of a range depends on its numbers alone
filter_same : (p q : ℕ → Bool) (a n : ℕ) → ((k : ℕ) → a ≤ k → k < a + n → p k ≡ q k) →
    filter p (range_with_len a n) ≡ filter q (range_with_len a n)
filter_same p q a zero same = refl
filter_same p q a (suc n) same = grind (arith, nat_tests, filter_same p q (a + 1) n)

-- the touched cells below a cell, and those above it
abbrev pub below : (ℕ → Bool) → List ℕ → ℕ → List Touched
below test was i = map (touched_cell was) (filter test (range_with_len 0 i))

abbrev pub above : (ℕ → Bool) → List ℕ → ℕ → List Touched
above test was i = map (touched_cell was) (filter test (range_with_len (i + 1) (cells - i - 1)))

abbrev pub here : (ℕ → Bool) → List ℕ → ℕ → List Touched
here test was i = cond (test i) (touched_cell was i ∷ []) []

around : (test : ℕ → Bool) (was : List ℕ) (i : ℕ) → i < cells →
    map (touched_cell was) (filter test (range_with_len 0 cells)) ≡ below test was i ++
    (here test was i ++ above test was i)
around test was i lt =
    let parts : range_with_len 0 cells ≡ range_with_len 0 i ++ i ∷
    range_with_len (i + 1) (cells - i - 1) = range_parts 0 cells i lt ∙ rw (zero_left i) refl in
    ap (λ (xs : List ℕ). map (touched_cell was) (filter test xs)) parts
    ∙ ap (map (touched_cell was)) (filter-append test (range_with_len 0 i) (i ∷
    range_with_len (i + 1) (cells - i - 1)))
    ∙ map-append (touched_cell was) (filter test (range_with_len 0 i))
    (filter test (i ∷ range_with_len (i + 1) (cells - i - 1)))
    ∙ ap (λ (ys : List Touched). below test was i ++ ys) (rest (test i))
  where
    zero_left : (i : ℕ) → 0 + i ≡ i
    zero_left i = omega arith

    rest : (b : Bool) →
        map (touched_cell was) (cond b (i ∷ filter test (range_with_len (i + 1) (cells - i - 1)))
        (filter test (range_with_len (i + 1) (cells - i - 1)))) ≡ cond b (touched_cell was i ∷ [])
        [] ++ above test was i
    rest true = refl
    rest false = refl

-- the touched cells of a column, around one of its cells
pub touched_around : (was now : List ℕ) (i : ℕ) → i < cells → touched_cells was now ≡
    below (has_changed was now) was i ++ (here (has_changed was now) was i ++
    above (has_changed was now) was i)
touched_around was now i lt = around (has_changed was now) was i lt

-- setting that cell changes none of the others
pub touched_set : (was now : List ℕ) (i state : ℕ) → i < cells → i < length now →
    touched_cells was (set now i state) ≡ below (has_changed was now) was i ++
    (cond (not (eqb (get_or was i 0) state)) (touched_cell was i ∷ []) [] ++
    above (has_changed was now) was i)
touched_set was now i state lt within =
    let p = has_changed was (set now i state) in
    let q = has_changed was now in
    let other : (k : ℕ) → (k ≡ i → ⊥) → p k ≡ q k = λ k ne. rw (get_or-set_other now i k state 0 ne)
    refl in
    let low : filter p (range_with_len 0 i) ≡ filter q (range_with_len 0 i) =
    filter_same p q 0 i (λ k le lt. other k (λ e. absurd (omega arith))) in
    let high : filter p (range_with_len (i + 1) (cells - i - 1)) ≡
    filter q (range_with_len (i + 1) (cells - i - 1)) = filter_same p q (i + 1) (cells - i - 1)
    (λ k le lt. other k (λ e. absurd (omega arith))) in
    let one : p i ≡ not (eqb (get_or was i 0) state) = rw (get_or-set_same now i state 0 within)
    refl in
    around p was i lt ∙ rw (low, high, one) refl

-- a column differs in no cell from itself
pub touched_none : (states : List ℕ) → touched_cells states states ≡ []
touched_none states = none 0 cells
  where
    none : (a n : ℕ) →
        map (touched_cell states) (filter (has_changed states states) (range_with_len a n)) ≡ []
    none a zero = refl
    none a (suc n) = rw (eq-eqb (get_or states a 0) (get_or states a 0) refl) (none (a + 1) n)

-- where no cell is touched, the columns have the same states
pub untouched_same : (was now : List ℕ) → length was ≡ cells → length now ≡ cells →
    touched_cells was now ≡ [] → was ≡ now
untouched_same was now len len' none = ext_get_or 0 was now (len ∙ sym len')
    (λ i lt. same 0 cells i none (omega arith) (omega (arith, len)))
  where
    same : (a n i : ℕ) → map (touched_cell was) (filter (has_changed was now) (range_with_len a n))
        ≡ [] → a ≤ i → i < a + n → get_or was i 0 ≡ get_or now i 0
    same a zero i e le lt = absurd (omega arith)
    same a (suc n) i e le lt =
        elim (eqb (get_or was a 0) (get_or now a 0)) as (λ b. eqb (get_or was a 0) (get_or now a 0)
        ≡ b → map (touched_cell was)
        (cond (not b) (a ∷ filter (has_changed was now) (range_with_len (a + 1) n))
        (filter (has_changed was now) (range_with_len (a + 1) n))) ≡ [] → get_or was i 0 ≡
        get_or now i 0) [
          | true ↦ λ equal h. elim (cases_eq i a) [
            | inl here ↦ rw here (eqb-true (get_or was a 0) (get_or now a 0) equal)
            | inr ne ↦ same (a + 1) n i h (omega arith) (omega arith)
          ]
          | false ↦ λ differs h. absurd cc
        ] refl e

-- ---- what touched cells had is put back

length-put_back : (touched : List Touched) (states : List ℕ) → length (put_back touched states) ≡
    length states
length-put_back [] states = refl
length-put_back (cell ∷ cells') states = length-set (put_back cells' states) cell.index cell.was ∙
    length-put_back cells' states

-- at a cell of a range it has what it had, and elsewhere what it has
back_at : (was now : List ℕ) (a n j : ℕ) → a + n ≤ length now →
    get_or (put_back (map (touched_cell was) (filter (has_changed was now) (range_with_len a n)))
    now) j 0 ≡ cond (nat_le a j && nat_lt j (a + n)) (get_or was j 0) (get_or now j 0)
back_at was now a zero j le = grind (arith, nat_tests)
back_at was now a (suc n) j le = grind (
  arith,
  back_at was now (a + 1) n j (omega arith),
  length-put_back,
  get_or-set_same,
  get_or-set_other,
)

-- the states that a column had are those that it has, with the touched cells put back
pub back_again : (was now : List ℕ) → length was ≡ cells → length now ≡ cells →
    put_back (touched_cells was now) now ≡ was
back_again was now len len' =
    ext_get_or 0 (put_back (touched_cells was now) now) was (length-put_back (touched_cells was now)
    now ∙ len' ∙ sym len) (λ j lt.
    let inside : j < cells = omega (arith, lt, length-put_back (touched_cells was now) now, len') in
    back_at was now 0 cells j (omega (arith, len')) ∙ rw (
      le-leb 0 j (omega arith),
      lt-ltb j (0 + cells) (omega (arith, inside)),
    ) refl)

-- the touched cells of what is put back, for any cells
pub back_touched : (touched : List Touched) (now : List ℕ) → length now ≡ cells →
    length (put_back touched now) ≡ cells
back_touched touched now len = length-put_back touched now ∙ len

abbrev later : (ℕ → Bool) → List ℕ → ℕ → ℕ → List Touched
later test was a n = map (touched_cell was) (filter test (range_with_len (a + 1) n))

-- the touched cells of a range have its indices
in_range : (test : ℕ → Bool) (was : List ℕ) (a n i : ℕ) (d : Touched) →
    i < length (map (touched_cell was) (filter test (range_with_len a n))) →
    (a ≤ (get_or (map (touched_cell was) (filter test (range_with_len a n))) i d).index) ×
    ((get_or (map (touched_cell was) (filter test (range_with_len a n))) i d).index < a + n)
in_range test was a zero i d lt = absurd (omega arith)
in_range test was a (suc n) i d lt = grind (arith, nat_tests, in_range test was (a + 1) n)

-- the touched cells stand around each cell
pub stand_around : (was now : List ℕ) (i : ℕ) → i < cells →
    IsAround (touched_cells was now) (below (has_changed was now) was i)
    (above (has_changed was now) was i) (has_changed was now i) (touched_cell was i)
stand_around was now i lt = record {
  parts = touched_around was now i lt;
  low_below = λ k d inside. let h = in_range (has_changed was now) was 0 i k d inside in
      omega (arith, h.1);
  high_above = λ k d inside. let h = in_range (has_changed was now) was (i + 1) (cells - i - 1) k d
      inside in omega (arith, h.0);
}

-- ---- a cell is set

pub sorted_at : (was now : List ℕ) (touched : List Touched) (i j : ℕ) → i < cells →
    touched ≡ touched_cells was now → j ≡ i →
    IsPartitionedBy (λ (other : Touched). nat_lt other.index j) touched
sorted_at was now touched i j lt are e =
    rw (are, e) (around_sorted (touched_cells was now) (below (has_changed was now) was i)
    (above (has_changed was now) was i) (has_changed was now i) (touched_cell was i)
    (stand_around was now i lt))

-- what a ready column is after a cell was set and accounted for
pub kept_set : (place : Place) (terrain : Terrain) (column new : ColumnValue)
    (touched before after : List Touched) (edits edits' : ℕ) (index old i state : ℕ) →
    IsKeptReady place terrain column touched edits → i < cells → new ≡ with_state column i state →
    before ≡ touched → index ≡ i → old ≡ get_or column.states i 0 →
    edits' ≡ length (changes terrain place (set column.states i state)) →
    AreAccounted before after index old state → IsKeptReady place terrain new after edits' ×
    (kept_ready place terrain new after ≡ set_cell (kept_ready place terrain column touched) i
    state)
kept_set place terrain column new touched before after edits edits' index old i state kept lt is
    same at' had count does =
    let now = column.states in
    let was = put_back touched column.states in
    let now_len = kept.sizes.states_are in
    let was_len : length (put_back touched column.states) ≡ cells =
    back_touched touched column.states now_len in
    let within : i < length column.states = omega (arith, now_len) in
    let new_len : length (set column.states i state) ≡ cells = length-set column.states i state ∙
    now_len in
    let around : IsAround before (below (has_changed was now) was i) (above (has_changed was now)
    was i) (has_changed was now i) (touched_cell was i) = rw (same ∙ kept.touched_are)
    (stand_around was now i lt) in
    let same_before : has_changed (put_back touched column.states) column.states i ≡ false →
    get_or (put_back touched column.states) i 0 ≡ old =
    λ e. unchanged (put_back touched column.states) column.states i e ∙ sym had in
    let after_is : after ≡ touched_cells (put_back touched column.states)
    (set column.states i state) = does (below (has_changed was now) was i)
    (above (has_changed was now) was i) (has_changed was now i) (touched_cell was i) around
    (sym at') same_before ∙ sym (touched_set was now i state lt within) in
    let back : put_back after (set column.states i state) ≡ put_back touched column.states =
    rw after_is (back_again (put_back touched column.states) (set column.states i state) was_len
    new_len) in
    rw is (
      record {
        inside = kept.inside;
        sizes = record { states_are = new_len; biomes_are = kept.sizes.biomes_are };
        touched_are = rw back after_is;
        counted = count;
      },
      rw back refl,
    )
  where
    unchanged : (was now : List ℕ) (i : ℕ) → has_changed was now i ≡ false → get_or was i 0 ≡
        get_or now i 0
    unchanged was now i e = grind (arith, nat_tests)

-- ---- how many cells are not the terrain's

-- a test that changes at one number counts one more or less
pub count_set : (p q : ℕ → Bool) (a n i : ℕ) → a ≤ i → i < a + n →
    ((k : ℕ) → (k ≡ i → ⊥) → p k ≡ q k) → length (filter q (range_with_len a n)) + bit_of (p i) ≡
    length (filter p (range_with_len a n)) + bit_of (q i)
count_set p q a zero i le lt same = absurd (omega arith)
count_set p q a (suc n) i le lt same =
    grind (arith, nat_tests, count_set p q (a + 1) n i, cases_eq, filter_same)

few_pass : (p : ℕ → Bool) (a n : ℕ) → length (filter p (range_with_len a n)) ≤ n
few_pass p a zero = omega arith
few_pass p a (suc n) = grind (arith, nat_tests, few_pass p (a + 1) n)

pub length-changes : (terrain : Terrain) (place : Place) (states : List ℕ) →
    length (changes terrain place states) ≡
    length (filter (is_changed terrain place states) (range_with_len 0 cells))
length-changes terrain place states =
    length-map (filter (is_changed terrain place states) (range_with_len 0 cells))
    (λ j. ((place, j), get_or states j 0))

-- no more cells are edits than there are
pub few_changes : (terrain : Terrain) (place : Place) (states : List ℕ) →
    length (changes terrain place states) ≤ cells
few_changes terrain place states = rw (length-changes terrain place states)
    (few_pass (is_changed terrain place states) 0 cells)

-- the edits of a column one of whose cells was set
pub changes_set : (terrain : Terrain) (place : Place) (states : List ℕ) (i state : ℕ) → i < cells →
    length states ≡ cells → length (changes terrain place (set states i state)) +
    bit_of (not (eqb (get_or states i 0) (terrain_at terrain (place, i)))) ≡
    length (changes terrain place states) + bit_of (not (eqb state (terrain_at terrain (place, i))))
changes_set terrain place states i state lt len =
    let here : get_or (set states i state) i 0 ≡ state =
    get_or-set_same states i state 0 (omega (arith, len)) in
    let count = count_set (is_changed terrain place states) (is_changed terrain place
    (set states i state)) 0 cells i (omega arith) (omega arith)
    (λ k ne. rw (get_or-set_other states i k state 0 ne) refl) in
    rw (length-changes terrain place (set states i state), length-changes terrain place states)
    (rw here at count)

-- ---- a column is made ready, or settled

-- a column without touched cells is settled as it is
pub same_ready : (place : Place) (terrain : Terrain) (column : ColumnValue) (touched : List Touched)
    → touched ≡ [] → kept_ready place terrain column touched ≡ record {
      place = place;
      terrain = terrain;
      present = column;
      settled = column;
    }
same_ready place terrain column touched none = rw none refl

pub ready_settled : (place : Place) (terrain : Terrain) (column : ColumnValue)
    (touched none : List Touched) → none ≡ [] → kept_ready place terrain column none ≡
    settled_ready (kept_ready place terrain column touched)
ready_settled place terrain column touched none is = rw is refl

pub kept_settled : (place : Place) (terrain : Terrain) (column : ColumnValue)
    (touched none : List Touched) (edits : ℕ) → IsKeptReady place terrain column touched edits →
    none ≡ [] → IsKeptReady place terrain column none edits
kept_settled place terrain column touched none edits kept is =
    rw is (record {
      inside = kept.inside;
      sizes = kept.sizes;
      touched_are = sym (touched_none column.states);
      counted = kept.counted;
    })

pub kept_own : (place : Place) (terrain : Terrain) (column : ColumnValue) (touched : List Touched) →
    IsPlace place → column ≡ own_column terrain place → touched ≡ [] →
    IsKeptReady place terrain column touched 0
kept_own place terrain column touched inside own none = rw none (record {
  inside = inside;
  sizes = rw own (record {
    states_are = length-map-range_with_len (λ i. terrain_at terrain (
      place,
      i,
    )) 0 cells;
    biomes_are = length-map-range_with_len _ 0 squares;
  });
  touched_are = sym (touched_none column.states);
  counted = sym (length-changes terrain place column.states ∙
      nothing 0 cells (λ k le lt.
      rw own (eq-eqb _ _ (get_or-map-range_with_len (λ i. terrain_at terrain (place, i)) 0 cells k k
      0 (omega (arith, lt)) (omega arith)))));
})
  where
    nothing : (a n : ℕ) → ((k : ℕ) → a ≤ k → k < a + n →
        eqb (get_or column.states k 0) (terrain_at terrain (place, k)) ≡ true) →
        length (filter (is_changed terrain place column.states) (range_with_len a n)) ≡ 0
    nothing a zero same = refl
    nothing a (suc n) same = rw (same a (omega arith) (omega arith))
        (nothing (a + 1) n (λ k le lt. same k (omega arith) (omega arith)))

-- the count of edits after a cell was set
pub count_after : (edits now before more less : ℕ) → edits ≡ before → now + less ≡ before + more →
    (edits + more - less ≡ now) × (less ≤ edits + more)
count_after edits now before more less e f = (omega (arith, e, f), omega (arith, e, f))

pub bit_at_most : (b : Bool) → bit_of b ≤ 1
bit_at_most true = omega arith
bit_at_most false = omega arith

-- and that it can be counted so
pub set_counts : (place : Place) (terrain : Terrain) (column : ColumnValue) (touched : List Touched)
    (edits i old own state more less : ℕ) → IsKeptReady place terrain column touched edits →
    i < cells → old ≡ get_or column.states i 0 → own ≡ terrain_at terrain (place, i) →
    more ≡ bit_of (not (eqb state own)) → less ≡ bit_of (not (eqb old own)) →
    (edits + more - less ≡ length (changes terrain place (set column.states i state))) ×
    (less ≤ edits + more) × (edits + more ≤ 65537)
set_counts place terrain column touched edits i old own state more less kept lt had is up down =
    let change = changes_set terrain place column.states i state lt kept.sizes.states_are in
    let told : length (changes terrain place (set column.states i state)) + less ≡
    length (changes terrain place column.states) + more = rw (up, down, had, is) change in
    let both = count_after edits (length (changes terrain place (set column.states i state)))
    (length (changes terrain place column.states)) more less kept.counted told in
    let few = few_changes terrain place column.states in
    let one = bit_at_most (not (eqb state own)) in
    (both.0, both.1, omega (arith, few, one, up, kept.counted, cells-is))

pub index_within : (x y z : ℕ) → x < 16 → y < 256 → z < 16 → cell_index x y z < cells
index_within x y z a b c = rw cells-is (omega arith)
