-- Where a cell stands among the touched ones.
use Rattle.std.proofs.Common.{◌≡◌, ℕ, zero, suc, ◌<◌, ◌≤◌, nat_lt, Bool, true, false, not}
use Rattle.std.proofs.Common.{eqb, List, [], ◌∷◌, ◌++◌, length, get_or, refl, sym, subst, ap, ◌∙◌}
use Rattle.std.proofs.Common.{arith}
use Rattle.std.proofs.lemmas.Bool.Decides.{nat_tests}
use Rattle.std.proofs.lemmas.Bool.{lt-ltb, ltb-true, eq-eqb, ne_eqb}
use Rattle.std.proofs.lemmas.Grind.{common_steps}
use Rattle.std.proofs.lemmas.List.{length-append, get_or_append_left, get_or-append_right}
use Rattle.std.specs.List.Sorted.{IsPartitionPoint, IsPartitionedBy}
use Rattle.mc_land.specs.declared.ready.Touched.{Touched}
use Rattle.mc_land.specs.ReadyCode.{one_if, IsAround, is_at}
use Rattle.std.specs.List.{insert, remove}

-- which of them have a lower index
abbrev pub is_low : Touched → Touched → Bool
is_low cell other = nat_lt other.index cell.index

-- those from the cell on have no lower index
upper : (high : List Touched) (known : Bool) (cell : Touched) (i : ℕ) (d : Touched) →
    ((k : ℕ) (e : Touched) → k < length high → cell.index < (get_or high k e).index) →
    i < length (one_if known cell ++ high) → is_low cell (get_or (one_if known cell ++ high) i d) ≡
    false
upper high known cell i d above lt = grind (arith, nat_tests)

-- a touched cell has a lower index exactly where it stands before that place
pub low_at : (touched low high : List Touched) (known : Bool) (cell : Touched) (i : ℕ) (d : Touched)
    → IsAround touched low high known cell → i < length touched → is_low cell (get_or touched i d) ≡
    nat_lt i (length low)
low_at touched low high known cell i d around lt =
    grind (arith, get_or_append_left, length-append, get_or-append_right)

-- so those with a lower index stand first
pub around_sorted : (touched low high : List Touched) (known : Bool) (cell : Touched) →
    IsAround touched low high known cell → IsPartitionedBy (λ other. is_low cell other) touched
around_sorted touched low high known cell around i j d le lt e =
    let below : j < length low =
    ltb-true j (length low) (sym (low_at touched low high known cell j d around lt) ∙ e) in
    low_at touched low high known cell i d around (omega arith) ∙
    lt-ltb i (length low) (omega arith)

-- and the place where they end is that of the cell
pub rank_low : (touched low high : List Touched) (known : Bool) (cell : Touched) (r : ℕ) →
    IsAround touched low high known cell → r ≤ length touched →
    IsPartitionPoint (λ other. is_low cell other ≡ true) (λ other. is_low cell other ≡ false)
    touched r → r ≡ length low
rank_low touched low high known cell r around le point = grind (
  arith,
  length-append low (one_if known cell ++ high),
  low_at touched low high known cell r cell around,
  low_at touched low high known cell (length low) cell around,
)

is_at_append : (low rest : List Touched) (index : ℕ) → is_at (low ++ rest) (length low) index ≡
    is_at rest 0 index
is_at_append [] rest index = refl
is_at_append (x ∷ low) rest index = is_at_append low rest index

-- the cell is touched exactly where it stands there
pub known_at : (touched low high : List Touched) (known : Bool) (cell : Touched) →
    IsAround touched low high known cell → is_at touched (length low) cell.index ≡ known
known_at touched low high known cell around =
    grind (arith, common_steps, is_at_append, eq-eqb, ne_eqb)

-- the cell is taken away from there, or put there
pub taken_away : (low high : List Touched) (cell : Touched) →
    remove (low ++ (cell ∷ high)) (length low) ≡ low ++ high
taken_away [] high cell = refl
taken_away (x ∷ low) high cell = ap (λ (t : List Touched). x ∷ t) (taken_away low high cell)

pub put_there : (low high : List Touched) (cell : Touched) →
    insert (low ++ high) (length low) cell ≡ low ++ (cell ∷ high)
put_there [] high cell = refl
put_there (x ∷ low) high cell = ap (λ (t : List Touched). x ∷ t) (put_there low high cell)

pub is_at_there : (touched : List Touched) (at index : ℕ) (cell : Touched) → at < length touched →
    cell ≡ get_or touched at cell → eqb cell.index index ≡ is_at touched at index
is_at_there [] at index cell lt e = absurd (omega arith)
is_at_there (x ∷ xs) zero index cell lt e = ap (λ (c : Touched). eqb c.index index) e
is_at_there (x ∷ xs) (suc at) index cell lt e = is_at_there xs at index cell (omega arith) e

pub is_at_past : (touched : List Touched) (at index : ℕ) → length touched ≤ at →
    false ≡ is_at touched at index
is_at_past [] at index le = refl
is_at_past (x ∷ xs) zero index le = absurd (omega arith)
is_at_past (x ∷ xs) (suc at) index le = is_at_past xs at index (omega arith)

-- ---- what touching does

-- a cell that was not touched is put among them
pub touch_add : (touched low high new : List Touched) (known : Bool) (cell : Touched) (r : ℕ) →
    r ≤ length touched → IsPartitionPoint (λ other. is_low cell other ≡ true)
    (λ other. is_low cell other ≡ false) touched r → is_at touched r cell.index ≡ false →
    new ≡ insert touched r cell → IsAround touched low high known cell → new ≡ low ++ (cell ∷ high)
touch_add touched low high new known cell r le point fails is around =
    let place = rank_low touched low high known cell r around le point in
    let unknown : known ≡ false = sym (known_at touched low high known cell around) ∙
    ap (λ (k : ℕ). is_at touched k cell.index) (sym place) ∙ fails in
    let parts : touched ≡ low ++ high = around.parts ∙ rw unknown refl in
    is ∙ rw (parts, place) (put_there low high cell)

-- one that was stays
pub touch_keep : (touched low high : List Touched) (known : Bool) (cell : Touched) (r : ℕ) →
    r ≤ length touched → IsPartitionPoint (λ other. is_low cell other ≡ true)
    (λ other. is_low cell other ≡ false) touched r → is_at touched r cell.index ≡ true →
    IsAround touched low high known cell → touched ≡ low ++ (cell ∷ high)
touch_keep touched low high known cell r le point passes around =
    let place = rank_low touched low high known cell r around le point in
    let here : known ≡ true = sym (known_at touched low high known cell around) ∙
    ap (λ (k : ℕ). is_at touched k cell.index) (sym place) ∙ passes in
    around.parts ∙ rw here refl

-- or is taken away
pub touch_gone : (touched low high new : List Touched) (known : Bool) (cell : Touched) (r : ℕ) →
    r ≤ length touched → IsPartitionPoint (λ other. is_low cell other ≡ true)
    (λ other. is_low cell other ≡ false) touched r → is_at touched r cell.index ≡ true →
    new ≡ remove touched r → IsAround touched low high known cell → new ≡ low ++ high
touch_gone touched low high new known cell r le point passes is around =
    let place = rank_low touched low high known cell r around le point in
    is ∙ rw (touch_keep touched low high known cell r le point passes around, place)
    (taken_away low high cell)

-- and one that was not is not
pub touch_none : (touched low high : List Touched) (known : Bool) (cell : Touched) (r : ℕ) →
    r ≤ length touched → IsPartitionPoint (λ other. is_low cell other ≡ true)
    (λ other. is_low cell other ≡ false) touched r → is_at touched r cell.index ≡ false →
    IsAround touched low high known cell → touched ≡ low ++ high
touch_none touched low high known cell r le point fails around =
    let place = rank_low touched low high known cell r around le point in
    let unknown : known ≡ false = sym (known_at touched low high known cell around) ∙
    ap (λ (k : ℕ). is_at touched k cell.index) (sym place) ∙ fails in
    around.parts ∙ rw unknown refl

-- the cell that stands there is the one
in_middle : (low high : List Touched) (cell d : Touched) →
    get_or (low ++ (cell ∷ high)) (length low) d ≡ cell
in_middle [] high cell d = refl
in_middle (x ∷ low) high cell d = in_middle low high cell d

pub touch_here : (touched low high : List Touched) (known : Bool) (cell d : Touched) (r : ℕ) →
    r ≤ length touched → IsPartitionPoint (λ other. is_low cell other ≡ true)
    (λ other. is_low cell other ≡ false) touched r → is_at touched r cell.index ≡ true →
    IsAround touched low high known cell → get_or touched r d ≡ cell
touch_here touched low high known cell d r le point passes around =
    let place = rank_low touched low high known cell r around le point in
    rw (touch_keep touched low high known cell r le point passes around, place)
    (in_middle low high cell d)

-- one that is not there is not known
pub touch_unknown : (touched low high : List Touched) (known : Bool) (cell : Touched) (r : ℕ) →
    r ≤ length touched → IsPartitionPoint (λ other. is_low cell other ≡ true)
    (λ other. is_low cell other ≡ false) touched r → is_at touched r cell.index ≡ false →
    IsAround touched low high known cell → known ≡ false
touch_unknown touched low high known cell r le point fails around =
    let place = rank_low touched low high known cell r around le point in
    sym (known_at touched low high known cell around) ∙ ap (λ (k : ℕ). is_at touched k cell.index)
    (sym place) ∙ fails

-- a cell is what its index and its state say
pub same_touched : (cell : Touched) (index was : ℕ) → cell.index ≡ index → cell.was ≡ was →
    cell ≡ record { index = index; was = was }
same_touched cell index was e f i = record { index = e i; was = f i }

-- where the list of touched cells ends below an index
abbrev pub EndsBelow : List Touched → ℕ → ℕ → Type 0
EndsBelow touched index r = IsPartitionPoint (λ other. nat_lt other.index index ≡ true)
    (λ other. nat_lt other.index index ≡ false) touched r

-- the states that differ, and the cell that stands for it
abbrev pub AreAccounted : List Touched → List Touched → ℕ → ℕ → ℕ → Type 0
AreAccounted touched new index old state = (low high : List Touched) (known : Bool) (cell : Touched)
    → IsAround touched low high known cell → cell.index ≡ index → (known ≡ false → cell.was ≡ old) →
    new ≡ low ++ (one_if (not (eqb cell.was state)) cell ++ high)

-- a touched cell that is as it was is taken away
pub account_gone : (touched new : List Touched) (index old state r : ℕ) (d : Touched) →
    r ≤ length touched → EndsBelow touched index r → is_at touched r index ≡ true →
    (get_or touched r d).was ≡ state → new ≡ remove touched r →
    AreAccounted touched new index old state
account_gone touched new index old state r d le point passes back is low high known cell around e
    was =
    let point' : EndsBelow touched cell.index r = subst (λ (n : ℕ). EndsBelow touched n r) (sym e)
    point in
    let passes' : is_at touched r cell.index ≡ true = rw e passes in
    let there : get_or touched r d ≡ cell = touch_here touched low high known cell d r le point'
    passes' around in
    let same : eqb cell.was state ≡ true =
    eq-eqb cell.was state (ap (λ (t : Touched). t.was) (sym there) ∙ back) in
    rw same (touch_gone touched low high new known cell r le point' passes' is around)

-- one that is not stays
pub account_kept : (touched : List Touched) (index old state r : ℕ) (d : Touched) →
    r ≤ length touched → EndsBelow touched index r → is_at touched r index ≡ true →
    ((get_or touched r d).was ≡ state → ⊥) → AreAccounted touched touched index old state
account_kept touched index old state r d le point passes differs low high known cell around e was =
    grind (arith, nat_tests, touch_here, ne_eqb, touch_keep)

-- a cell that was not touched and changes is put there
pub account_new : (touched new : List Touched) (index old state r : ℕ) → r ≤ length touched →
    EndsBelow touched index r → is_at touched r index ≡ false → (old ≡ state → ⊥) →
    new ≡ insert touched r (record { index = index; was = old }) →
    AreAccounted touched new index old state
account_new touched new index old state r le point fails differs is low high known cell around e
    was =
    let point' : EndsBelow touched cell.index r = subst (λ (n : ℕ). EndsBelow touched n r) (sym e)
    point in
    let fails' : is_at touched r cell.index ≡ false = rw e fails in
    let was' : cell.was ≡ old = was (touch_unknown touched low high known cell r le point' fails'
    around) in
    let cell' : cell ≡ record { index = index; was = old } = same_touched cell index old e was' in
    let other : eqb cell.was state ≡ false = ne_eqb cell.was state (λ h. differs (sym was' ∙ h)) in
    rw other (touch_add touched low high new known cell r le point' fails' (is ∙
    ap (insert touched r) (sym cell')) around)

-- one that does not change is not
pub account_none : (touched : List Touched) (index old state r : ℕ) → r ≤ length touched →
    EndsBelow touched index r → is_at touched r index ≡ false → old ≡ state →
    AreAccounted touched touched index old state
account_none touched index old state r le point fails same low high known cell around e was =
    grind (arith, nat_tests, touch_unknown, eq-eqb, touch_none)

-- a place where a touched cell stands is one of theirs
pub is_at_within : (touched : List Touched) (at index : ℕ) → is_at touched at index ≡ true →
    at < length touched
is_at_within [] at index e = absurd cc
is_at_within (x ∷ xs) zero index e = omega arith
is_at_within (x ∷ xs) (suc at) index e = let h = is_at_within xs at index e in omega arith
