-- Laws of a number of values, one after another.
use Rattle.std.specs.Prelude.{◌≡◌, ℕ, zero, suc, ◌≤◌, List, [], ◌∷◌, ◌++◌, length, refl}
use Rattle.std.proofs.Common.{sym, ap, ◌∙◌, append_assoc, arith}
use Rattle.std.proofs.lemmas.List.{append-nil}
use Rattle.mc_bytes.specs.Reading.{Field}
use Rattle.mc_bytes.specs.Format.{IsOnly, IsAppended, IsBounded, Anything}
use Rattle.mc_bytes.specs.CombineLaws.{joined_length}
use Rattle.mc_bytes.specs.Times.{AllSpelled, times_at, times_spells}
use Rattle.mc_bytes.specs.ManyBytes.{AllFit, all_spelling, all_append, all_most}

-- each value is spelled by its own part, so all are read
pub times_only : {A : Type 0} (spells : A → List ℕ → Type 0) (read : List ℕ → Field A)
    → IsOnly Anything spells read → (Rest : List ℕ → Type 0) (n : ℕ)
    → IsOnly Rest (times_spells spells n) (times_at read n)
unfolding times_at
times_only spells read only Rest zero [] front rest ends s = rw s.1 refl
times_only spells read only Rest zero (x ∷ xs) front rest ends s = absurd cc
times_only spells read only Rest (suc n) [] front rest ends s = absurd cc
times_only spells read only Rest (suc n) (x ∷ xs) front rest ends (
  len,
  (first, others, parts, spelled, all),
) =
    let regrouped : front ++ rest ≡ first ++ (others ++ rest) = ap (λ (t : List ℕ). t ++ rest) parts
    ∙ append_assoc first others rest in
    let fewer : length xs ≡ n = omega (arith, len) in
    rw (
      regrouped,
      only x first (others ++ rest) tt spelled,
      times_only spells read only Rest n xs
          others rest ends (fewer, all),
    ) refl

pub all_fit : {A : Type 0} (spells : A → List ℕ → Type 0) (fits : A → Type 0)
    → ((a : A) (bytes : List ℕ) → spells a bytes → fits a) → (xs : List A) (bytes : List ℕ)
    → AllSpelled spells xs bytes → AllFit fits xs
all_fit spells fits fit [] bytes s = tt
all_fit spells fits fit (x ∷ xs) bytes (first, others, parts, spelled, all) =
    (fit x first spelled, all_fit spells fits fit xs others all)

pub all_spelled : {A : Type 0} (spells : A → List ℕ → Type 0) (fits : A → Type 0) (spelling : A
    → List ℕ) → ((a : A) → fits a → spells a (spelling a)) → (xs : List A) → AllFit fits xs
    → AllSpelled spells xs (all_spelling spelling xs)
all_spelled spells fits spelling spelled [] fit = refl
all_spelled spells fits spelling spelled (x ∷ xs) fit = (
  spelling x,
  all_spelling spelling xs,
  refl,
  spelled x fit.0,
  all_spelled spells fits spelling
      spelled xs fit.1,
)

pub all_appended : {A : Type 0} (spelling : A → List ℕ) (append : A → List ℕ → List ℕ)
    → IsAppended spelling append → IsAppended (all_spelling spelling) (all_append append)
unfolding all_append
all_appended spelling append appended [] out = sym (append-nil out)
all_appended spelling append appended (x ∷ xs) out =
    all_appended spelling append appended xs (append x out)
    ∙ ap (λ (t : List ℕ). t ++ all_spelling spelling xs) (appended x out)
    ∙ append_assoc out (spelling x) (all_spelling spelling xs)

pub all_bounded : {A : Type 0} (spells : A → List ℕ → Type 0) (most : A → ℕ)
    → IsBounded spells most → (xs : List A) (bytes : List ℕ) → AllSpelled spells xs bytes
    → length bytes ≤ all_most most xs
all_bounded spells most bounded [] bytes s = rw s (omega arith)
all_bounded spells most bounded (x ∷ xs) bytes (first, others, parts, spelled, all) =
    joined_length bytes first others (most x) (all_most most xs) parts (bounded x first spelled)
    (all_bounded spells most bounded xs others all)
