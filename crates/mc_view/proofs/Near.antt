-- Near on both axes.
use Rattle.std.proofs.Common.{◌≡◌, ℕ, ◌≤◌, Bool, true, false, ◌&&◌, refl, arith}
use Rattle.std.proofs.lemmas.Bool.Decides.{nat_tests}
use Rattle.std.specs.Prelude.{nat_le}
use Rattle.std.proofs.lemmas.Bool.{le-leb}

both_true : (a b : Bool) → (a && b) ≡ true → (a ≡ true) × (b ≡ true)
both_true true b e = (refl, e)
both_true false b e = absurd cc

true_both : (a b : Bool) → a ≡ true → b ≡ true → (a && b) ≡ true
true_both true b e f = f
true_both false b e f = absurd cc

pub near_both : (x z d : ℕ) → (nat_le x d && nat_le z d) ≡ true → (x ≤ d) × (z ≤ d)
near_both x z d t = grind (arith, nat_tests)

pub both_near : (x z d : ℕ) → x ≤ d → z ≤ d → (nat_le x d && nat_le z d) ≡ true
both_near x z d p q = true_both (nat_le x d) (nat_le z d) (le-leb x d p) (le-leb z d q)
