-- Laws of lists behind their number.
use Rattle.std.specs.Prelude.{◌≡◌, ℕ, true, List, length, refl}
use lib.IntN.{ℤ, pos, negsuc}
use Rattle.mc_bytes.specs.CombineLaws.{IsView}
use Rattle.mc_bytes.specs.ManyBytes.{AllFit}
use Rattle.mc_bytes.specs.Naturals.{is_natural, natural_of}

natural_again : (z : ℤ) → is_natural z ≡ true → pos (natural_of z) ≡ z
natural_again (pos n) e = refl
natural_again (negsuc n) e = absurd cc

pub natural_view : (fits : ℤ → Type 0)
    → IsView (λ z. fits z × (is_natural z ≡ true)) (λ n. Unit {0}) natural_of pos
natural_view fits =
    record { made = λ z f. tt; again = λ z f. natural_again z f.1; same = λ n f. refl }

pub listed_view : {A : Type 0} (counts : ℕ → Type 0) (fits : A → Type 0)
    → IsView {A = ℕ × List A} (λ v. counts v.0 × ((length v.1 ≡ v.0) × AllFit fits v.1))
    (λ xs. Unit {0}) (λ v. v.1) (λ xs. (length xs, xs))
listed_view counts fits =
    record { made = λ v f. tt; again = λ (n, xs) f. rw f.1.0 refl; same = λ xs f. refl }

pub sized_view : (counts : ℕ → Type 0)
    → IsView {A = ℕ × List ℕ} (λ v. counts v.0 × (length v.1 ≡ v.0)) (λ bytes. Unit {0}) (λ v. v.1)
    (λ bytes. (length bytes, bytes))
sized_view counts =
    record { made = λ v f. tt; again = λ (n, bytes) f. rw f.1 refl; same = λ bytes f. refl }
