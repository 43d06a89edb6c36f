-- Each chest stands in a column of the world, and has so many piles of items that the world holds:
-- setting a cell and filling a chest keep that. So there are no more chests than cells of the
-- world, and all that lies in them is a number of 128 bits.
use Rattle.std.proofs.Common.{◌≡◌, ℕ, suc, ◌+◌, ◌-◌, ◌*◌, ◌^◌, ◌<◌, ◌≤◌, Bool, true, false}
use Rattle.std.proofs.Common.{cond, T, List, [], ◌∷◌, length, refl, sym, subst, ap, ◌∙◌, arith}
use Rattle.std.proofs.Common.{ℤ, pos, negsuc, ◌≤ℤ◌, ◌<ℤ◌}
use Rattle.std.proofs.lemmas.Bool.Decides.{nat_tests}
use Rattle.std.proofs.lemmas.Int.{ints}
use Rattle.std.proofs.lemmas.List.Sums.{sum_by-cons}
use Rattle.std.specs.Prelude.{Option, Some, None, IsSome, if◌then◌else◌, is_some}
use Rattle.std.specs.List.{AllByRecursion, filter, sum_by}
use Rattle.std.specs.declared.cmp.Ordering.{Ordering}
use Rattle.std.specs.declared.cmp.Ordering.TheVariants.{Less, Equal, Greater}
use Rattle.std.specs.Cmp.{int_ranks, ranks}
use Rattle.std.specs.Ordering.{MatchOrdering, eq_by_cmp, int_cmp, is_lt, nat_cmp, ordering_then}
use Rattle.std.specs.FinMap.{FinMap, entries, entries_sorted, get, get-entries}
use Rattle.std.specs.FinMap.{get-insert, get-remove, insert, is_sorted, remove}
use Rattle.std.specs.FinMap.Entries.{below_all}
use Rattle.mc_column.specs.Sizes.{cells}
use Rattle.mc_column.specs.SizesLaws.{cells-is}
use Rattle.mc_slots.specs.declared.pile.Pile.{Pile}
use Rattle.mc_slots.specs.declared.pile.Pile.TheVariants.{Empty, Full}
use Rattle.mc_slots.specs.Chest.{IsChest, empty_chest, empty_is_chest, pile_at}
use Rattle.mc_slots.specs.Pile.{IsPile, count_of}
use Rattle.mc_land.specs.Places.{IsPlace, Key, column_number, is_inside, is_within_border, key_cmp}
use Rattle.mc_land.specs.Places.{key_of, place_of}
use Rattle.mc_land.specs.Land.{chests_after, is_chest}
use Rattle.mc_land.proofs.Orders.{exact_keys, keys_total}
use Rattle.mc_model.specs.Things.{chest_of_cell, chest_put}
use Rattle.mc_model.proofs.FitsText.{both_true}
use Rattle.mc_model.proofs.Maps.Sorted.{each_found, first, second}
use Rattle.mc_play.specs.Census.{chests_items}
use Rattle.mc_play.specs.Kept.{AreStocked}

-- ---- a cell that is set, a chest that is filled

-- the column of a number within the border
column_low : (v : ℤ) → is_within_border v ≡ true →
    (negsuc 1874999 ≤ℤ column_number v) × (column_number v ≤ℤ pos 1875000)
column_low (pos n) is = grind (arith, nat_tests, ints)
column_low (negsuc n) is = grind (arith, nat_tests, ints)

-- a cell of the world is in a column of it
pub inside_place : (x y z : ℤ) → is_inside x y z ≡ true → IsPlace (place_of x z)
inside_place x y z is = grind (arith, nat_tests, both_true, column_low, ints)

-- a chest that is put there
module _ (chests : FinMap key_cmp (List Pile)) (old : AreStocked chests) (key : Key) where
  insert_stocked : IsPlace key.0 → (piles : List Pile) → IsChest piles →
      AreStocked (insert chests key piles)
  insert_stocked place piles chest q found e =
      came (eq_by_cmp key_cmp q key) refl (sym (get-insert keys_total chests key piles q) ∙ e)
    where
      came : (b : Bool) → eq_by_cmp key_cmp q key ≡ b →
          cond b (Some piles) (get chests q) ≡ Some found → IsPlace q.0 × IsChest found
      came true t e = grind (arith, nat_tests, exact_keys q key)
      came false t e = old q found e

  remove_stocked : AreStocked (remove chests key)
  remove_stocked q found e =
      left (eq_by_cmp key_cmp q key) (sym (get-remove keys_total chests key q) ∙ e)
    where
      left : (b : Bool) → cond b None (get chests q) ≡ Some found → IsPlace q.0 × IsChest found
      left true e = absurd cc
      left false e = old q found e

  pub set_stocked : IsPlace key.0 → (was is : ℕ) → AreStocked (chests_after chests key was is)
  set_stocked place was is = go (is_chest is) (is_chest was)
    where
      go : (new old_ : Bool) → AreStocked (if new then (if old_ then chests else
          insert chests key empty_chest) else remove chests key)
      go true true = old
      go true false = insert_stocked place empty_chest empty_is_chest
      go false b = remove_stocked

-- other piles in the chest of a cell
pub put_stocked : (chests : FinMap key_cmp (List Pile)) → AreStocked chests → (x y z : ℤ) →
    is_some (chest_of_cell chests x y z) ≡ true → (piles : List Pile) → IsChest piles →
    AreStocked (chest_put chests x y z piles)
put_stocked chests old x (pos y) z there piles chest =
    insert_stocked chests old (key_of x y z) (at (get chests (key_of x y z)) refl) piles chest
  where
    at : (o : Option (List Pile)) → get chests (key_of x y z) ≡ o → IsPlace (place_of x z)
    at None is = absurd (none is there)
      where
        none : get chests (key_of x y z) ≡ None → is_some (chest_of_cell chests x (pos y) z) ≡
            true → ⊥
        none is there = grind (arith, nat_tests)
    at (Some piles) is = (old (key_of x y z) piles is).0
put_stocked chests old x (negsuc y) z there piles chest = old

-- ---- how many chests there may be

-- how far a column is from the edge of the world
abbrev from_edge : ℤ → ℕ
from_edge (pos n) = n + 1875010
from_edge (negsuc n) = 1875010 - suc n

-- which of all cells of the world a key is
abbrev number_of : Key → ℕ
number_of key = (from_edge key.0.0 * 3750021 + from_edge key.0.1) * 65536 + key.1

-- how many there are
abbrev cell_count : ℕ
cell_count = 3750021 * 3750021 * 65536

abbrev IsCell : Key → Type 0
IsCell key = IsPlace key.0 × (key.1 < 65536)

edge_rises : (u v : ℤ) → negsuc 1875009 ≤ℤ u → u <ℤ v → from_edge u < from_edge v
edge_rises (pos m) (pos n) low lt = omega (arith, ints)
edge_rises (pos m) (negsuc n) low lt = omega (arith, ints)
edge_rises (negsuc m) (pos n) low lt = omega (arith, ints)
edge_rises (negsuc m) (negsuc n) low lt = omega (arith, ints)

edge_below : (v : ℤ) → v ≤ℤ pos 1875010 → from_edge v < 3750021
edge_below (pos n) high = omega (arith, ints)
edge_below (negsuc n) high = omega (arith, ints)

-- numbers of columns are ordered as they lie
edges : (o : Ordering) (u v : ℤ) → negsuc 1875009 ≤ℤ u → negsuc 1875009 ≤ℤ v →
    MatchOrdering o (u <ℤ v) (u ≡ v) (v <ℤ u) →
    MatchOrdering o (from_edge u < from_edge v) (from_edge u ≡ from_edge v)
    (from_edge v < from_edge u)
edges Less u v low low' is = edge_rises u v low is
edges Equal u v low low' is = ap from_edge is
edges Greater u v low low' is = edge_rises v u low' is

-- three numbers in order
by_parts : (p q r : Ordering) (a b c d e f : ℕ) → MatchOrdering p (a < b) (a ≡ b) (b < a) →
    MatchOrdering q (c < d) (c ≡ d) (d < c) → MatchOrdering r (e < f) (e ≡ f) (f < e) →
    ordering_then (ordering_then p q) r ≡ Less → c < 3750021 → d < 3750021 → e < 65536 →
    f < 65536 → (a * 3750021 + c) * 65536 + e < (b * 3750021 + d) * 65536 + f
by_parts Less q r a b c d e f x y z is cs ds es fs = omega (arith, x, cs, ds, es, fs)
by_parts Equal Less r a b c d e f x y z is cs ds es fs = omega (arith, x, y, es, fs)
by_parts Equal Equal Less a b c d e f x y z is cs ds es fs = omega (arith, x, y, z)
by_parts Equal Equal Equal a b c d e f x y z is cs ds es fs = absurd cc
by_parts Equal Equal Greater a b c d e f x y z is cs ds es fs = absurd cc
by_parts Equal Greater r a b c d e f x y z is cs ds es fs = absurd cc
by_parts Greater q r a b c d e f x y z is cs ds es fs = absurd cc

number_rises : (a b : Key) → IsCell a → IsCell b → key_cmp a b ≡ Less → number_of a < number_of b
number_rises a b is other less = by_parts (int_cmp a.0.0 b.0.0) (int_cmp a.0.1 b.0.1)
    (nat_cmp a.1 b.1) (from_edge a.0.0) (from_edge b.0.0) (from_edge a.0.1) (from_edge b.0.1) a.1
    b.1 (edges _ a.0.0 b.0.0 is.0.cx_low other.0.cx_low (int_ranks a.0.0 b.0.0))
    (edges _ a.0.1 b.0.1 is.0.cz_low other.0.cz_low (int_ranks a.0.1 b.0.1)) (ranks a.1 b.1) less
    (edge_below a.0.1 is.0.cz_high) (edge_below b.0.1 other.0.cz_high) is.1 other.1

number_below : (key : Key) → IsCell key → number_of key < cell_count
number_below key is = omega (
  arith,
  edge_below key.0.0 is.0.cx_high,
  edge_below key.0.1 is.0.cz_high,
  is.1,
)

abbrev Chests : Type 0
Chests = List (Key × List Pile)

-- a list begins with a cell from a number on, if with any
abbrev Begins : ℕ → Chests → Type 0
Begins low [] = Unit {0}
Begins low (e ∷ es) = low ≤ number_of e.0

less : (o : Ordering) → T (is_lt o) → o ≡ Less
less o h = grind (arith, nat_tests)

-- what is behind one
begins : (e : Key × List Pile) (es : Chests) → IsCell e.0 →
    AllByRecursion (λ (f : Key × List Pile). IsCell f.0) es → T (below_all key_cmp e.0 es) →
    Begins (number_of e.0 + 1) es
begins e [] is all above = tt
begins e (f ∷ fs) is all above = omega (
  arith,
  number_rises e.0 f.0 is all.0 (less _ (first _ _ above)),
)

-- cells in order are no more than there are
few_from : (es : Chests) → T (is_sorted key_cmp es) →
    AllByRecursion (λ (e : Key × List Pile). IsCell e.0) es → (low : ℕ) → low ≤ cell_count →
    Begins low es → length es + low ≤ cell_count
few_from [] sorted all low within from = omega (arith, within)
few_from (e ∷ es) sorted all low within from =
    let below : number_of e.0 + 1 ≤ cell_count = omega (arith, number_below e.0 all.0) in
    let rest : length es + (number_of e.0 + 1) ≤ cell_count =
    few_from es (second (below_all key_cmp e.0 es) (is_sorted key_cmp es) sorted) all.1
    (number_of e.0 + 1) below (begins e es all.0 all.1
    (first (below_all key_cmp e.0 es) (is_sorted key_cmp es) sorted)) in
    omega (arith, rest, from)

-- ---- how much lies in them

count_few : (pile : Pile) → IsPile pile → count_of pile ≤ 64
count_few Empty is = omega arith
count_few (Full item) is = is.count.1

piles_few : (piles : List Pile) → ((i : ℕ) → IsPile (pile_at piles i)) →
    sum_by count_of piles ≤ 64 * length piles
piles_few [] are = omega arith
piles_few (p ∷ ps) are = omega (
  arith,
  sum_by-cons count_of p ps,
  count_few p (are 0),
  piles_few ps (λ i. are (suc i)),
)

chest_few : (piles : List Pile) → IsChest piles → sum_by count_of piles ≤ 1728
chest_few piles is = omega (arith, piles_few piles is.are_piles, is.size)

chests_few : (es : Chests) → AllByRecursion (λ (e : Key × List Pile). IsChest e.1) es →
    sum_by (λ (e : Key × List Pile). sum_by count_of e.1) es ≤ 1728 * length es
chests_few [] all = omega arith
chests_few (e ∷ es) all = omega (
  arith,
  sum_by-cons (λ (e : Key × List Pile). sum_by count_of e.1) e es,
  chest_few e.1 all.0,
  chests_few es all.1,
)

-- ---- all together

everything : (es : Chests) → filter (λ (e : Key × List Pile). true) es ≡ es
everything [] = refl
everything (e ∷ es) = ap (λ (fs : Chests). e ∷ fs) (everything es)

-- what holds of each chest that is found holds of all entries
all_entries : (P : Key × List Pile → Type 0) (chests : FinMap key_cmp (List Pile)) →
    ((key : Key) (piles : List Pile) → get chests key ≡ Some piles → P (key, piles)) →
    AllByRecursion P (entries chests)
all_entries P chests holds = subst (AllByRecursion P) (everything (entries chests))
    (each_found keys_total P (λ (e : Key × List Pile). true) (entries chests)
    (entries_sorted chests) (λ key piles found. holds key piles (get-entries chests key ∙ found)))

pub stocked_few : (chests : FinMap key_cmp (List Pile)) → AreStocked chests →
    ((key : Key) → IsSome (get chests key) → key.1 < cells) →
    chests_items count_of chests ≤ 2 ^ 80
stocked_few chests stocked inside =
    let here = all_entries (λ (e : Key × List Pile). IsCell e.0) chests (λ key piles found.
    ((stocked key piles found).0, cell key piles found)) in
    let whole = all_entries (λ (e : Key × List Pile). IsChest e.1) chests (λ key piles found.
    (stocked key piles found).1) in
    let few = few_from (entries chests) (entries_sorted chests) here 0 (omega arith)
    (at_least (entries chests)) in
    omega (arith, few, chests_few (entries chests) whole)
  where
    cell : (key : Key) (piles : List Pile) → get chests key ≡ Some piles → key.1 < 65536
    cell key piles found = (let some : IsSome (get chests key) = ap is_some found in
        subst (λ (n : ℕ). key.1 < n) cells-is (inside key some))

    at_least : (es : Chests) → Begins 0 es
    at_least [] = tt
    at_least (e ∷ es) = omega arith
