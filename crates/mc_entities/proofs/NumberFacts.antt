-- Elements in rising number: each number stands once, so what changes or leaves out the element of
-- a number changes or leaves out the one at its place.
use Rattle.std.proofs.Common.{◌≡◌, ◌≢◌, ℕ, zero, suc, ◌+◌, ◌≤◌, ◌<◌, List, [], ◌∷◌, ◌++◌, map}
use Rattle.std.proofs.Common.{length, get_or, set, refl, sym, subst, arith}
use Rattle.std.specs.Prelude.{◌≤ℤ◌, ◌<ℤ◌, Bool, true, false, cond, int_lt, Option, Some, None}
use Rattle.std.specs.Prelude.{Result, Ok, Err, IfSome}
use Rattle.std.specs.Result.{result_ok}
use Rattle.std.specs.List.{filter, remove}
use Rattle.std.specs.List.Sorted.{IsPartitionPoint, IsSearchInRange, IsBinarySearchResult}
use Rattle.std.specs.List.Sorted.{IsNonDecreasingBy}
use Rattle.std.specs.declared.cmp.Ordering.TheVariants.{Less, Greater}
use Rattle.std.specs.Ordering.{int_eq, int_cmp, ordering_index}
use Rattle.std.specs.Cmp.{int_ranked}
use Rattle.std.proofs.lemmas.Bool.Decides.{Decides-int_eq, nat_tests}
use Rattle.std.proofs.lemmas.Grind.{common_steps}
use Rattle.std.proofs.lemmas.Int.{ints}
use lib.IntN.{ℤ}
use Rattle.mc_entities.specs.Numbers.{numbered, changed, without, Rise}
use Rattle.mc_entities.specs.Kept.{IsPlaced}

-- ---- tests of numbers

pub int_same : (a b : ℤ) → a ≡ b → int_eq a b ≡ true
int_same a b e = (Decides-int_eq a b).1 e

pub int_other : (a b : ℤ) → a ≢ b → int_eq a b ≡ false
int_other a b ne = grind (arith, nat_tests)

pub int_lt_true : (a b : ℤ) → int_lt a b ≡ true → a <ℤ b
int_lt_true a b e = grind (arith, ints)

pub int_lt_false : (a b : ℤ) → int_lt a b ≡ false → b ≤ℤ a
int_lt_false a b e = grind (arith, ints)

pub lt_int : (a b : ℤ) → a <ℤ b → int_lt a b ≡ true
lt_int a b h = grind (arith, ints)

pub le_int : (a b : ℤ) → b ≤ℤ a → int_lt a b ≡ false
le_int a b h = grind (arith, ints)

between : (a b : ℤ) → a ≤ℤ b → b ≤ℤ a → a ≡ b
between a b h k = omega (arith, ints, h, k)

below_other : (a b : ℤ) → a <ℤ b → a ≢ b
below_other a b h e = omega (arith, ints, h, e)

pub lt_le : (a b : ℤ) → a <ℤ b → a ≤ℤ b
lt_le a b h = omega (arith, ints, h)

le_trans : (a b c : ℤ) → a ≤ℤ b → b ≤ℤ c → a ≤ℤ c
le_trans a b c h k = omega (arith, ints, h, k)

pub le_lt : (a b c : ℤ) → a ≤ℤ b → b <ℤ c → a <ℤ c
le_lt a b c h k = omega (arith, ints, h, k)

pub below_self : (a : ℤ) → a ≤ℤ a
below_self a = omega (arith, ints)

-- ---- lists that rise

-- from a lower number on
pub rise_less : {X : Type 0} (number : X → ℤ) (low less high : ℤ) (xs : List X) →
    less ≤ℤ low → Rise number low xs high → Rise number less xs high
rise_less number low less high [] le r = le_trans less low high le r
rise_less number low less high (x ∷ xs) le r = (le_lt less low (number x) le r.0, r.1)

-- up to a higher one
pub rise_more : {X : Type 0} (number : X → ℤ) (low high more : ℤ) (xs : List X) →
    high ≤ℤ more → Rise number low xs high → Rise number low xs more
rise_more number low high more [] le r = le_trans low high more r le
rise_more number low high more (x ∷ xs) le r =
    (r.0, rise_more number (number x) high more xs le r.1)

-- one more behind
pub rise_join : {X : Type 0} (number : X → ℤ) (low high more : ℤ) (xs : List X) (x : X) →
    high <ℤ number x → number x ≤ℤ more →
    Rise number low xs high → Rise number low (xs ++ x ∷ []) more
rise_join number low high more [] x lt le r = (le_lt low high (number x) r lt, le)
rise_join number low high more (y ∷ xs) x lt le r =
    (r.0, rise_join number (number y) high more xs x lt le r.1)

-- some of them
pub rise_filter : {X : Type 0} (number : X → ℤ) (p : X → Bool) (low high : ℤ) (xs : List X) →
    Rise number low xs high → Rise number low (filter p xs) high
rise_filter number p low high [] r = r
rise_filter number p low high (x ∷ xs) r =
    grind (arith, nat_tests, rise_filter number p (number x) high xs r.1, rise_less, lt_le)

-- all changed that keep their numbers
pub rise_map : {X Y : Type 0} (number : X → ℤ) (named : Y → ℤ) (f : X → Y) (low high : ℤ)
    (xs : List X) →
    ((x : X) → named (f x) ≡ number x) → Rise number low xs high → Rise named low (map f xs) high
rise_map number named f low high [] same r = r
rise_map number named f low high (x ∷ xs) same r =
    grind (arith, nat_tests, rise_map number named f (number x) high xs same r.1)

-- one changed that keeps its number
pub rise_set : {X : Type 0} (number : X → ℤ) (low high : ℤ) (xs : List X) (i : ℕ) (t d : X) →
    i < length xs → number t ≡ number (get_or xs i d) →
    Rise number low xs high → Rise number low (set xs i t) high
rise_set number low high [] i t d lt e r = absurd (omega (arith, lt))
rise_set number low high (x ∷ xs) zero t d lt e r = grind (arith, nat_tests)
rise_set number low high (x ∷ xs) (suc i) t d lt e r =
    (r.0, rise_set number (number x) high xs i t d (omega (arith, lt)) e r.1)

-- each is above the first bound
pub rise_at : {X : Type 0} (number : X → ℤ) (low high : ℤ) (xs : List X) (i : ℕ) (d : X) →
    i < length xs → Rise number low xs high → low <ℤ number (get_or xs i d)
rise_at number low high [] i d lt r = absurd (omega (arith, lt))
rise_at number low high (x ∷ xs) zero d lt r = r.0
rise_at number low high (x ∷ xs) (suc i) d lt r =
    grind (arith, nat_tests, rise_at number (number x) high xs i d (omega (arith, lt)) r.1)

-- a later one is not lower
pub rise_le : {X : Type 0} (number : X → ℤ) (low high : ℤ) (xs : List X) (i j : ℕ) (d : X) →
    Rise number low xs high →
    i ≤ j → j < length xs → number (get_or xs i d) ≤ℤ number (get_or xs j d)
rise_le number low high [] i j d r le lt = absurd (omega (arith, lt))
rise_le number low high (x ∷ xs) zero zero d r le lt = omega (arith, ints)
rise_le number low high (x ∷ xs) zero (suc j) d r le lt = grind (arith, nat_tests, lt_le, rise_at)
rise_le number low high (x ∷ xs) (suc i) zero d r le lt = absurd (omega (arith, le))
rise_le number low high (x ∷ xs) (suc i) (suc j) d r le lt =
    rise_le number (number x) high xs i j d r.1 (omega (arith, le)) (omega (arith, lt))

-- so a search by number goes the right way
searchable : {X : Type 0} (number : X → ℤ) (low high n : ℤ) (xs : List X) →
    Rise number low xs high → IsNonDecreasingBy (λ x. ordering_index (int_cmp (number x) n)) xs
searchable number low high n xs r i j d le lt =
    grind (arith, nat_tests, ints, rise_le number low high xs i j d r le lt)

-- ---- the one of a number

pub numbered_at : {X : Type 0} (number : X → ℤ) (n low high : ℤ) (xs : List X) (i : ℕ) (d : X) →
    Rise number low xs high →
    i < length xs → number (get_or xs i d) ≡ n → numbered number n xs ≡ Some (get_or xs i d)
numbered_at number n low high [] i d r lt e = absurd (omega (arith, lt))
numbered_at number n low high (x ∷ xs) zero d r lt e = rw (int_same (number x) n e) refl
numbered_at number n low high (x ∷ xs) (suc i) d r lt e =
    let later = rise_at number (number x) high xs i d (omega (arith, lt)) r.1 in
    let P : ℤ → Type 0 = λ m. number x <ℤ m in
    rw (int_other (number x) n (below_other (number x) n (subst P e later)))
    (numbered_at number n (number x) high xs i d r.1 (omega (arith, lt)) e)

pub numbered_none : {X : Type 0} (number : X → ℤ) (n : ℤ) (xs : List X) →
    ((i : ℕ) (d : X) → i < length xs → number (get_or xs i d) ≢ n) → numbered number n xs ≡ None
numbered_none number n [] other = refl
numbered_none number n (x ∷ xs) other =
    rw (int_other (number x) n (other 0 x (omega arith)))
    (numbered_none number n xs (λ i d lt. other (suc i) d (omega (arith, lt))))

-- ---- looking for it

pub placed_here : {X : Type 0} (number : X → ℤ) (n low high : ℤ) (xs : List X) (i : ℕ) →
    Rise number low xs high →
    i < length xs → ((d : X) → number (get_or xs i d) ≡ n) → IsPlaced number n i xs
placed_here number n low high xs i r lt named = grind (arith, nat_tests, numbered_at)

-- where a search ends without it, it is nowhere
placed_nowhere : {X : Type 0} (number : X → ℤ) (n : ℤ) (xs : List X) (i : ℕ) →
    IsPartitionPoint (λ x. int_cmp (number x) n ≡ Less) (λ x. int_cmp (number x) n ≡ Greater) xs i →
    numbered number n xs ≡ None
placed_nowhere number n xs i point = grind (arith, nat_tests, ints, numbered_none number n xs)

-- what a search finds
pub searched_some : {X : Type 0} (number : X → ℤ) (n low high : ℤ) (xs : List X) (r : Result ℕ ℕ)
    (o : Option ℕ) → Rise number low xs high → IsSearchInRange r (length xs) →
    IsBinarySearchResult (λ x. int_cmp (number x) n) xs r → o ≡ result_ok r →
    IfSome o (λ i. IsPlaced number n i xs)
searched_some number n low high xs (Ok i) o rise within is e = rw e
    (placed_here number n low high xs i rise within (λ d. int_ranked _ _ _ (sym (is d))))
searched_some number n low high xs (Err i) o rise within is e = rw e tt

-- and where it finds nothing
pub searched_none : {X : Type 0} (number : X → ℤ) (n low high : ℤ) (xs : List X) (r : Result ℕ ℕ)
    (o : Option ℕ) → Rise number low xs high → IsSearchInRange r (length xs) →
    IsBinarySearchResult (λ x. int_cmp (number x) n) xs r → o ≡ result_ok r →
    o ≡ None → numbered number n xs ≡ None
searched_none number n low high xs (Ok i) o rise within is e none =
    grind (arith, nat_tests)
searched_none number n low high xs (Err i) o rise within is e none =
    placed_nowhere number n xs i (is (searchable number low high n xs rise))

-- ---- one changed

pub changed_none : {X : Type 0} (number : X → ℤ) (n : ℤ) (f : X → X) (xs : List X) →
    numbered number n xs ≡ None → changed number n f xs ≡ xs
changed_none number n f [] e = refl
changed_none number n f (x ∷ xs) e = grind (arith, nat_tests, changed_none number n f xs)

changed_past : {X : Type 0} (number : X → ℤ) (n low high : ℤ) (f : X → X) (xs : List X) →
    n ≤ℤ low → Rise number low xs high → changed number n f xs ≡ xs
changed_past number n low high f [] le r = refl
changed_past number n low high f (x ∷ xs) le r =
    grind (arith, nat_tests, changed_past number n (number x) high f xs)

pub changed_at : {X : Type 0} (number : X → ℤ) (n low high : ℤ)
    (f : X → X) (xs : List X) (i : ℕ) (d : X) → Rise number low xs high → i < length xs →
    number (get_or xs i d) ≡ n → changed number n f xs ≡ set xs i (f (get_or xs i d))
changed_at number n low high f [] i d r lt e = absurd (omega (arith, lt))
changed_at number n low high f (x ∷ xs) zero d r lt e =
    grind (arith, nat_tests, int_same, changed_past, ints)
changed_at number n low high f (x ∷ xs) (suc i) d r lt e =
    let later = rise_at number (number x) high xs i d (omega (arith, lt)) r.1 in
    let P : ℤ → Type 0 = λ m. number x <ℤ m in
    rw (
      int_other (number x) n (below_other (number x) n (subst P e later)),
      changed_at number n (number x) high f xs i d r.1 (omega (arith, lt)) e,
    ) refl

-- ---- one left out

pub without_none : {X : Type 0} (number : X → ℤ) (n : ℤ) (xs : List X) →
    numbered number n xs ≡ None → without number n xs ≡ xs
without_none number n [] e = refl
without_none number n (x ∷ xs) e = grind (arith, nat_tests, without_none number n xs)

without_past : {X : Type 0} (number : X → ℤ) (n low high : ℤ) (xs : List X) →
    n ≤ℤ low → Rise number low xs high → without number n xs ≡ xs
without_past number n low high [] le r = refl
without_past number n low high (x ∷ xs) le r =
    grind (arith, nat_tests, without_past number n (number x) high xs)

pub without_at : {X : Type 0} (number : X → ℤ) (n low high : ℤ) (xs : List X) (i : ℕ) (d : X) →
    Rise number low xs high →
    i < length xs → number (get_or xs i d) ≡ n → without number n xs ≡ remove xs i
without_at number n low high [] i d r lt e = absurd (omega (arith, lt))
without_at number n low high (x ∷ xs) zero d r lt e =
    grind (arith, nat_tests, int_same, without_past, ints)
without_at number n low high (x ∷ xs) (suc i) d r lt e =
    let later = rise_at number (number x) high xs i d (omega (arith, lt)) r.1 in
    let P : ℤ → Type 0 = λ m. number x <ℤ m in
    rw (
      int_other (number x) n (below_other (number x) n (subst P e later)),
      without_at number n (number x) high xs i d r.1 (omega (arith, lt)) e,
    ) refl

-- ---- the same of a list as it was seen

pub changed_absent : {X : Type 0} (number : X → ℤ) (n : ℤ) (f : X → X) (xs seen : List X) →
    seen ≡ xs → numbered number n seen ≡ None → xs ≡ changed number n f xs
changed_absent number n f xs seen e none = grind (arith, nat_tests, changed_none)

pub without_absent : {X : Type 0} (number : X → ℤ) (n : ℤ) (xs seen : List X) →
    seen ≡ xs → numbered number n seen ≡ None → xs ≡ without number n xs
without_absent number n xs seen e none = grind (arith, nat_tests, without_none)

pub without_placed : {X : Type 0} (number : X → ℤ) (n low high : ℤ)
    (xs seen ys : List X) (i : ℕ) (d : X) → seen ≡ xs →
    Rise number low xs high → IsPlaced number n i seen → ys ≡ remove xs i → ys ≡ without number n xs
without_placed {X = X} number n low high xs seen ys i d e r placed new =
    grind (arith, nat_tests, without_at number n low high xs i d r)

pub changed_placed : {X : Type 0} (number : X → ℤ) (n low high : ℤ) (f : X → X) (xs : List X)
    (i : ℕ) (old new : X) → Rise number low xs high → IsPlaced number n i xs →
    old ≡ get_or xs i old → new ≡ f old → set xs i new ≡ changed number n f xs
changed_placed number n low high f xs i old new r placed is e = grind (arith, nat_tests, changed_at)

-- ---- counting

abbrev one : Bool → ℕ
one b = cond b 1 0

pub count_set : {X : Type 0} (p : X → Bool) (xs : List X) (i : ℕ) (t d : X) →
    i < length xs → p t ≡ p (get_or xs i d) → length (filter p (set xs i t)) ≡ length (filter p xs)
count_set p [] i t d lt e = absurd (omega (arith, lt))
count_set p (x ∷ xs) zero t d lt e = grind (arith, nat_tests)
count_set p (x ∷ xs) (suc i) t d lt e = grind (arith, nat_tests, count_set p xs i t d)

pub count_remove : {X : Type 0} (p : X → Bool) (xs : List X) (i : ℕ) (d : X) →
    i < length xs → length (filter p (remove xs i)) + one (p (get_or xs i d)) ≡ length (filter p xs)
count_remove p [] i d lt = absurd (omega (arith, lt))
count_remove p (x ∷ xs) zero d lt = grind (arith, nat_tests)
count_remove p (x ∷ xs) (suc i) d lt = grind (arith, nat_tests, count_remove p xs i d)

pub count_join : {X : Type 0} (p : X → Bool) (xs : List X) (x : X) →
    length (filter p (xs ++ x ∷ [])) ≡ length (filter p xs) + one (p x)
count_join p xs x = grind (arith, common_steps)
