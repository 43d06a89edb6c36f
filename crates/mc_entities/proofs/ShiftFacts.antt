-- A coordinate after a step, and a spot after a move.
use Rattle.std.proofs.Common.{◌≡◌, refl, arith}
use Rattle.std.proofs.lemmas.Bool.Decides.{nat_tests}
use Rattle.std.specs.Prelude.{◌≤ℤ◌, ◌<ℤ◌, ◌+ℤ◌, ◌&&◌, Bool, true, false, cond, int_le, Option, Some}
use Rattle.std.specs.Prelude.{None}
use Rattle.std.proofs.lemmas.Int.{ints}
use lib.IntN.{ℤ, neg_ℤ}
use Rattle.mc_fields.specs.declared.position.Spot.{Spot}
use Rattle.mc_entities.specs.declared.mind.Move.{Move}
use Rattle.mc_entities.specs.Shift.{within, added, shifted_spot}
use Rattle.mc_entities.specs.declared.shifting.TheConstants.{FLAT_END, LOWEST, HIGHEST}

le_true : (a b : ℤ) → a ≤ℤ b → int_le a b ≡ true
le_true a b h = grind (arith, ints)

le_false : (a b : ℤ) → b <ℤ a → int_le a b ≡ false
le_false a b h = grind (arith, ints)

and_false : (a : Bool) → (a && false) ≡ false
and_false true = refl
and_false false = refl

pub within_above : (low high n : ℤ) → high <ℤ n → None ≡ within low high n
within_above low high n h = rw (le_false n high h, and_false (int_le low n)) refl

pub within_both : (low high n : ℤ) → low ≤ℤ n → n ≤ℤ high → Some n ≡ within low high n
within_both low high n l h = rw (le_true low n l, le_true n high h) refl

-- ---- a spot, by its three coordinates

abbrev is_some_within : ℤ → ℤ → ℤ → Bool
is_some_within low high n = int_le low n && int_le n high

out : (b : Bool) (n : ℤ) → cond b (Some n) None ≡ None → b ≡ false
out true n e = absurd cc
out false n e = refl

inside : (b : Bool) (n m : ℤ) → cond b (Some n) None ≡ Some m → (b ≡ true) × (m ≡ n)
inside true n m e = (refl, cc)
inside false n m e = absurd cc

abbrev east : Move → Spot → ℤ
east by spot = spot.x +ℤ by.dx

abbrev up : Move → Spot → ℤ
up by spot = spot.y +ℤ by.dy

abbrev south : Move → Spot → ℤ
south by spot = spot.z +ℤ by.dz

abbrev flat : ℤ → Option ℤ
flat n = within (neg_ℤ FLAT_END) FLAT_END n

abbrev tall : ℤ → Option ℤ
tall n = within LOWEST HIGHEST n

abbrev picked : Bool → Bool → Bool → Move → Spot → Spot
picked a b c by spot = cond (a && (b && c)) (added by spot) spot

pub shift_no_x : (by : Move) (spot : Spot) →
    flat (east by spot) ≡ None → spot ≡ shifted_spot by spot
shift_no_x by spot e = grind (arith, nat_tests)

pub shift_no_y : (by : Move) (spot : Spot) → tall (up by spot) ≡ None → spot ≡ shifted_spot by spot
shift_no_y by spot e = grind (arith, nat_tests)

pub shift_no_z : (by : Move) (spot : Spot) →
    flat (south by spot) ≡ None → spot ≡ shifted_spot by spot
shift_no_z by spot e = grind (arith, nat_tests, out)

pub shift_all : (by : Move) (spot : Spot) (x y z : ℤ) →
    flat (east by spot) ≡ Some x → tall (up by spot) ≡ Some y →
    flat (south by spot) ≡ Some z → record spot { x = x; y = y; z = z } ≡ shifted_spot by spot
shift_all by spot x y z e f g =
    let a = inside (is_some_within (neg_ℤ FLAT_END) FLAT_END (east by spot)) (east by spot) x e in
    let b = inside (is_some_within LOWEST HIGHEST (up by spot)) (up by spot) y f in
    let c = inside (is_some_within (neg_ℤ FLAT_END) FLAT_END (south by spot)) (south by spot) z g in
    rw (a.0, b.0, c.0, a.1, b.1, c.1) refl
