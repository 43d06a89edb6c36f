-- How a section is kept stays right through each change.
use Rattle.std.proofs.Common.{◌≡◌, ℕ, ◌+◌, ◌*◌, ◌-◌, ◌/◌, ◌%◌, ◌<◌, ◌≤◌, false, eqb}
use Rattle.std.proofs.Common.{suc, List, [], ◌∷◌, length, get_or, set, replicate, refl, sym}
use Rattle.std.proofs.Common.{ap, ◌∙◌, arith, inl, inr, ◌↔◌, not}
use Rattle.std.proofs.lemmas.Bool.Decides.{nat_tests}
use Rattle.std.proofs.lemmas.Bool.{cases_lt, cases_Bool, eqb-true, eq-eqb}
use Rattle.std.proofs.lemmas.Grind.{common_steps}
use Rattle.std.proofs.lemmas.List.{ext_get_or, get_or-replicate, length-replicate, get_or_past}
use Rattle.std.proofs.lemmas.List.{length-set, get_or-set_same, get_or-set_other}
use Rattle.std.proofs.lemmas.List.Sums.{sum_by-set, sum_by-le}
use Rattle.std.proofs.lemmas.List.Folds.{sum_by-replicate}
use Rattle.std.proofs.lemmas.List.Elements.{All-replicate}
use Rattle.mc_column.specs.Sizes.{section_cells}
use Rattle.mc_column.specs.Cells.{paired, IsAir}
use Rattle.mc_column.specs.Sent.{has_block}
use Rattle.mc_column.specs.Kept.{IsKept, block_of, blocks_in}
use Rattle.mc_column.proofs.Pairs.{length-paired, paired-set, paired-zeros}

pub get_or-zeros : (n i : ℕ) → get_or (replicate {A = ℕ} n 0) i 0 ≡ 0
get_or-zeros n i =
    grind (arith, nat_tests, cases_lt, get_or-replicate, get_or_past, length-replicate)

-- zeros are kept as a section without a block
pub kept_zeros : (bytes : List ℕ) (n : ℕ) → n ≡ 2 * section_cells → bytes ≡ replicate n 0 →
    IsKept bytes 0
kept_zeros bytes n e zeros =
    grind (arith, nat_tests, length-replicate, get_or-zeros, paired-zeros, sum_by-replicate)

-- the number of states is that of a section
pub kept_length : (bytes : List ℕ) (filled : ℕ) → IsKept bytes filled → length (paired bytes) ≡
    section_cells
kept_length bytes filled kept = length-paired bytes section_cells kept.sized

byte_set : (bytes : List ℕ) (at byte : ℕ) → ((i : ℕ) → get_or bytes i 0 < 256) → byte < 256 →
    (i : ℕ) → get_or (set bytes at byte) i 0 < 256
byte_set bytes at byte fit lt i =
    grind (arith, get_or-set_same, get_or-set_other, get_or_past, length-set)

-- one state is put in place of another
pub kept_set : (bytes : List ℕ) (filled i state old n : ℕ) → IsKept bytes filled →
    i < section_cells → state < 65536 → old ≡ get_or (paired bytes) i 0 →
    n ≡ filled + block_of state - block_of old →
    IsKept (set (set bytes (2 * i) (state % 256)) (2 * i + 1) (state / 256)) n
kept_set bytes filled i state old n kept lt fits is count = grind (
  arith,
  length-set bytes (2 * i) (state % 256),
  length-set (set bytes (2 * i) (state % 256)) (2 * i + 1) (state / 256),
  kept_length bytes filled kept,
  sum_by-set block_of (paired bytes) i state 0,
  byte_set (set bytes (2 * i) (state % 256)) (2 * i + 1) (state / 256),
  byte_set bytes (2 * i) (state % 256) kept.are_bytes,
  paired-set bytes i (state % 256) (state / 256),
)

block_is_0 : (state : ℕ) → block_of state ≡ 0 → state ≡ 0
block_is_0 state e = grind (arith, nat_tests)

zeros_list : (xs : List ℕ) → IsAir xs → xs ≡ replicate (length xs) 0
zeros_list xs air =
    ext_get_or 0 xs (replicate (length xs) 0) (sym (length-replicate (length xs) 0))
    (λ i lt. air i 0 lt ∙ sym (get_or-zeros (length xs) i))

-- no block is counted exactly where all is air
pub air_counted : (xs : List ℕ) (filled : ℕ) → filled ≡ blocks_in xs → (filled ≡ 0) ↔ IsAir xs
air_counted xs filled counted = (
  λ none i d lt. block_is_0 (get_or xs i d) (omega (arith, sum_by-set block_of xs i 0 d lt)),
  λ air. counted ∙ ap blocks_in (zeros_list xs air) ∙ sum_by-replicate block_of (length xs) 0 ∙
      omega arith,
)

pub air_or_zeros : (xs : List ℕ) → IsAir xs → xs ≡ replicate (length xs) 0
air_or_zeros xs air = zeros_list xs air

pub zeros_air : (n : ℕ) → IsAir (replicate n 0)
zeros_air n = All-replicate (λ state. state ≡ 0) n 0 refl

pub block_at_most : (state : ℕ) → block_of state ≤ 1
block_at_most state = grind (arith, nat_tests)

-- a section holds no more blocks than cells, and one at least where a cell has one
pub kept_counts : (bytes : List ℕ) (filled i : ℕ) → IsKept bytes filled → i < section_cells →
    (filled ≤ section_cells) × (block_of (get_or (paired bytes) i 0) ≤ filled)
kept_counts bytes filled i kept lt = grind (
  arith,
  kept_length bytes filled kept,
  sum_by-le block_of 1 (paired bytes),
  block_at_most,
  sum_by-set block_of (paired bytes) i 0 0,
)

-- ---- the test whether some state is not air

air_no_block : (xs : List ℕ) → IsAir xs → has_block xs ≡ false
air_no_block [] air = refl
air_no_block (x ∷ xs) air = let here : x ≡ 0 = air 0 0 (omega arith) in
    rw (here, air_no_block xs (λ k d lt. air (suc k) d (omega arith))) refl

no_block_air : (xs : List ℕ) → has_block xs ≡ false → IsAir xs
no_block_air xs none k d lt = grind (arith, common_steps, cases_Bool, eqb-true)

-- all is air exactly where no state is a block
pub air_test : (xs : List ℕ) → (has_block xs ≡ false) ↔ IsAir xs
air_test xs = (no_block_air xs, air_no_block xs)

pub counted_test : (xs : List ℕ) (filled : ℕ) → filled ≡ blocks_in xs → eqb filled 0 ≡
    not (has_block xs)
counted_test xs filled counted =
    elim (cases_Bool (has_block xs)) [
      | inl some ↦ grind (arith, air_no_block xs, air_counted xs filled counted)
      | inr none ↦ rw none (eq-eqb filled 0 ((air_counted xs filled counted).1
          (no_block_air xs none)))
    ]

-- a section without a block is air
pub kept_air : (bytes : List ℕ) (filled : ℕ) → IsKept bytes filled → filled ≡ 0 → paired bytes ≡
    replicate section_cells 0
kept_air bytes filled kept none =
    air_or_zeros (paired bytes) ((air_counted (paired bytes) filled kept.counted).0 none) ∙
    ap (λ (n : ℕ). replicate {A = ℕ} n 0) (kept_length bytes filled kept)
