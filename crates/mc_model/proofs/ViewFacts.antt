-- The columns of a view are those near its middle.
use Rattle.std.proofs.Common.{◌≡◌, ℕ, ◌+◌, ◌*◌, ◌<◌, ◌≤◌, true, unsigned_abs, List, [], ◌∷◌, map}
use Rattle.std.proofs.Common.{get_or, refl, sym, subst, ap, arith, inl, inr}
use Rattle.std.proofs.lemmas.Bool.Decides.{nat_tests}
use Rattle.std.specs.List.{Contains, flat_map, range_with_len}
use Rattle.std.proofs.lemmas.List.Elements.{Contains-append_left, Contains-append_right}
use Rattle.std.proofs.lemmas.List.Elements.{Contains-append_cases}
use Rattle.std.proofs.lemmas.List.FromFn.{get_or-range_with_len, length-range_with_len}
use Rattle.std.proofs.lemmas.Int.{ints}
use lib.IntN.{ℤ, pos, ◌+ℤ◌, ◌-ℤ◌}
use Rattle.mc_land.specs.Places.{Place}
use Rattle.mc_view.specs.Views.{is_in_view, run_of, view_of}
use Rattle.mc_view.proofs.Near.{near_both, both_near}

-- ---- what lists that are made of lists hold

-- one element holds itself, and nothing else
one_holds : {X : Type 0} (x : X) → Contains (x ∷ []) x
one_holds x = (0, omega arith, refl)

held_by_one : {X : Type 0} (y x : X) → Contains (y ∷ []) x → y ≡ x
held_by_one y x (k, lt, is) = let first : k ≡ 0 = omega (arith, lt) in
    subst (λ (n : ℕ). get_or (y ∷ []) n x ≡ x) first is

-- what f makes of an element is held by what it makes of the list
mapped_holds : {X Y : Type 0} (f : X → Y) (xs : List X) (x : X) → Contains xs x →
    Contains (map f xs) (f x)
mapped_holds f [] x (k, lt, is) = absurd (omega (arith, lt))
mapped_holds f (y ∷ ys) x held = elim (Contains-append_cases (y ∷ []) ys x held) [
  | inl first ↦ Contains-append_left (f y ∷ []) (map f ys) (f x)
      (subst (λ z. Contains (f y ∷ []) (f z)) (held_by_one y x first) (one_holds (f y)))
  | inr later ↦ Contains-append_right (f y ∷ []) (map f ys) (f x) (mapped_holds f ys x later)
]

-- and nothing else
mapped_from : {X Y : Type 0} (f : X → Y) (xs : List X) (z : Y) → Contains (map f xs) z →
    (x : X) × Contains xs x × (f x ≡ z)
mapped_from f [] z (k, lt, is) = absurd (omega (arith, lt))
mapped_from f (y ∷ ys) z held = elim (Contains-append_cases (f y ∷ []) (map f ys) z held) [
  | inl first ↦ (y, Contains-append_left (y ∷ []) ys y (one_holds y), held_by_one (f y) z first)
  | inr later ↦ let found = mapped_from f ys z later in
      (found.0, Contains-append_right (y ∷ []) ys found.0 found.1, found.2)
]

-- likewise of lists that are made one after another
joined_holds : {X Y : Type 0} (f : X → List Y) (xs : List X) (x : X) (z : Y) →
    Contains xs x → Contains (f x) z → Contains (flat_map f xs) z
joined_holds f [] x z (k, lt, is) inner = absurd (omega (arith, lt))
joined_holds f (y ∷ ys) x z held inner = elim (Contains-append_cases (y ∷ []) ys x held) [
  | inl first ↦ Contains-append_left (f y) (flat_map f ys) z
      (subst (λ w. Contains (f w) z) (sym (held_by_one y x first)) inner)
  | inr later ↦ Contains-append_right (f y) (flat_map f ys) z (joined_holds f ys x z later inner)
]

joined_from : {X Y : Type 0} (f : X → List Y) (xs : List X) (z : Y) → Contains (flat_map f xs) z →
    (x : X) × Contains xs x × Contains (f x) z
joined_from f [] z (k, lt, is) = absurd (omega (arith, lt))
joined_from f (y ∷ ys) z held = elim (Contains-append_cases (f y) (flat_map f ys) z held) [
  | inl first ↦ (y, Contains-append_left (y ∷ []) ys y (one_holds y), first)
  | inr later ↦ let found = joined_from f ys z later in
      (found.0, Contains-append_right (y ∷ []) ys found.0 found.1, found.2)
]

-- ---- a run of numbers around another

-- a range from 0 holds what is below its length
range_holds : (n i : ℕ) → i < n → Contains (range_with_len 0 n) i
range_holds n i lt =
    grind (arith, nat_tests, length-range_with_len 0 n, get_or-range_with_len 0 n i i lt)

range_below : (n i : ℕ) → Contains (range_with_len 0 n) i → i < n
range_below n i (k, lt, is) = grind (arith, nat_tests, length-range_with_len, get_or-range_with_len)

-- a run of 2 d + 1 numbers from d below another on holds those that are at most d off
run_near : (middle x : ℤ) (d : ℕ) → Contains (run_of (middle -ℤ pos d) (2 * d + 1)) x →
    unsigned_abs (x -ℤ middle) ≤ d
run_near middle x d held =
    let found = mapped_from (λ i. middle -ℤ pos d +ℤ pos i) (range_with_len 0 (2 * d + 1)) x held in
    near middle x d found.0 (range_below (2 * d + 1) found.0 found.1) found.2
  where
    near : (middle x : ℤ) (d i : ℕ) → i < 2 * d + 1 → middle -ℤ pos d +ℤ pos i ≡ x →
        unsigned_abs (x -ℤ middle) ≤ d
    near middle x d i lt is = omega (arith, ints)

near_run : (middle x : ℤ) (d : ℕ) → unsigned_abs (x -ℤ middle) ≤ d →
    Contains (run_of (middle -ℤ pos d) (2 * d + 1)) x
near_run middle x d near =
    subst (Contains (run_of (middle -ℤ pos d) (2 * d + 1))) (is middle x d near)
    (mapped_holds (λ i. middle -ℤ pos d +ℤ pos i) (range_with_len 0 (2 * d + 1)) (offset middle x d)
    (range_holds (2 * d + 1) (offset middle x d) (below middle x d near)))
  where
    offset : ℤ → ℤ → ℕ → ℕ
    offset middle x d = unsigned_abs (x -ℤ (middle -ℤ pos d))

    below : (middle x : ℤ) (d : ℕ) → unsigned_abs (x -ℤ middle) ≤ d →
        unsigned_abs (x -ℤ (middle -ℤ pos d)) < 2 * d + 1
    below middle x d near = omega (arith, ints)

    is : (middle x : ℤ) (d : ℕ) → unsigned_abs (x -ℤ middle) ≤ d →
        middle -ℤ pos d +ℤ pos (unsigned_abs (x -ℤ (middle -ℤ pos d))) ≡ x
    is middle x d near = omega (arith, ints)

-- ---- the view

-- the places of a view that have this x
abbrev row : Place → ℕ → ℤ → List Place
row middle d x = map (λ z. (x, z)) (run_of (middle.1 -ℤ pos d) (2 * d + 1))

-- what a view holds is near its middle
pub view_near : (middle : Place) (d : ℕ) (place : Place) → Contains (view_of middle d) place →
    is_in_view middle d place ≡ true
unfolding view_of
view_near middle d place held =
    let found = joined_from (row middle d) (run_of (middle.0 -ℤ pos d) (2 * d + 1)) place held in
    let inner = mapped_from (λ (z : ℤ). (found.0, z))
    (run_of (middle.1 -ℤ pos d) (2 * d + 1)) place found.2 in
    both_near (unsigned_abs (place.0 -ℤ middle.0)) (unsigned_abs (place.1 -ℤ middle.1)) d
    (run_near middle.0 place.0 d (subst (Contains (run_of (middle.0 -ℤ pos d) (2 * d + 1)))
    (ap (λ (p : Place). p.0) inner.2) found.1))
    (run_near middle.1 place.1 d (subst (Contains (run_of (middle.1 -ℤ pos d) (2 * d + 1)))
    (ap (λ (p : Place). p.1) inner.2) inner.1))

-- and what is near is held
pub near_view : (middle : Place) (d : ℕ) (place : Place) → is_in_view middle d place ≡ true →
    Contains (view_of middle d) place
unfolding view_of
near_view middle d place near =
    let apart = near_both (unsigned_abs (place.0 -ℤ middle.0))
    (unsigned_abs (place.1 -ℤ middle.1)) d near in
    joined_holds (row middle d) (run_of (middle.0 -ℤ pos d) (2 * d + 1)) place.0 place
    (near_run middle.0 place.0 d apart.0)
    (mapped_holds (λ (z : ℤ). (place.0, z)) (run_of (middle.1 -ℤ pos d) (2 * d + 1)) place.1
    (near_run middle.1 place.1 d apart.1))
