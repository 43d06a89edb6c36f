-- A section that is kept only where it has a block.
use Rattle.std.proofs.Common.{◌≡◌, ◌↔◌, ℕ, zero, suc, ◌+◌, ◌*◌, ◌/◌, ◌%◌, ◌<◌, ◌≤◌, Bool, true}
use Rattle.std.proofs.Common.{false, cond, not, List, ◌∷◌, length, get_or, set, replicate}
use Rattle.std.proofs.Common.{Option, Some, None, IsNone, IsTrue, Bor, take, drop, ◌++◌, refl, sym}
use Rattle.std.proofs.Common.{ap, ◌∙◌, arith, inl, inr}
use Rattle.std.proofs.lemmas.Bool.Decides.{nat_tests}
use Rattle.std.proofs.lemmas.Bool.{cases_eq, ne_eqb, true≢false}
use Rattle.std.proofs.lemmas.List.{ext_get_or, get_or-set_same, get_or-set_other, length-set}
use Rattle.std.proofs.lemmas.List.{length-replicate, take-append-le, take_all}
use Rattle.std.specs.Option.{is_some}
use Rattle.mc_column.specs.Sizes.{section_cells}
use Rattle.mc_column.specs.Cells.{IsAir, wire}
use Rattle.mc_column.specs.Sent.{has_block}
use Rattle.mc_column.specs.KeptSparse.{states_in, IsSparse}
use Rattle.mc_column.specs.KeptColumn.{nth_section}
use Rattle.mc_column.specs.Kept.{IsKept, blocks_in}
use Rattle.mc_column.proofs.KeptFacts.{air_counted, air_or_zeros, air_test, counted_test, zeros_air}
use Rattle.mc_column.proofs.Pairs.{length-wire, paired-wire, wire_low, wire_high}

no_block : has_block (replicate section_cells 0) ≡ false
no_block = (air_test (replicate section_cells 0)).1 (zeros_air section_cells)

-- air is kept as nothing
pub air_sparse : IsSparse None
air_sparse = grind (arith, nat_tests, length-replicate)

-- a section with a block is kept
pub block_sparse : (states : List ℕ) → length states ≡ section_cells → has_block states ≡ true →
    IsSparse (Some states)
block_sparse states len block = grind (arith, nat_tests)

-- states none of which is counted are air
pub no_blocks_air : (states : List ℕ) (filled : ℕ) → length states ≡ section_cells →
    filled ≡ blocks_in states → filled ≡ 0 → replicate section_cells 0 ≡ states
no_blocks_air states filled len counted none = grind (arith, nat_tests, air_or_zeros, air_counted)

-- states some of which are counted are kept
pub blocks_sparse : (states : List ℕ) (filled : ℕ) → length states ≡ section_cells →
    filled ≡ blocks_in states → (filled ≡ 0 → ⊥) → IsSparse (Some states)
blocks_sparse states filled len counted some =
    block_sparse states len (turned (has_block states) (sym (counted_test states filled counted) ∙
    ne_eqb filled 0 some))
  where
    turned : (b : Bool) → not b ≡ false → b ≡ true
    turned true e = refl
    turned false e = absurd cc

-- none is kept exactly where all is air
pub none_is_air : (section : Option (List ℕ)) (none : Bool) → IsSparse section → is_some section ≡
    not none → IsTrue none ↔ IsAir (states_in section)
none_is_air None true sparse e = (λ t. zeros_air section_cells, λ air. refl)
none_is_air None false sparse e = absurd cc
none_is_air (Some states) true sparse e = absurd cc
none_is_air (Some states) false sparse e = grind (arith, nat_tests, true≢false, air_test states)

pub not_some_is_air : (section : Option (List ℕ)) (result : Option (Bor (List ℕ))) →
    IsSparse section → is_some result ≡ is_some section → IsNone result ↔ IsAir (states_in section)
not_some_is_air None result sparse same = (λ e. zeros_air section_cells, λ air. same)
not_some_is_air (Some states) result sparse same =
    grind (arith, nat_tests, true≢false, air_test states)

pub none_no_block : (section : Option (List ℕ)) (none : Bool) → IsSparse section → is_some section ≡
    not none → none ≡ not (has_block (states_in section))
none_no_block section none sparse e = grind (arith, nat_tests, no_block)

-- states of air are sent as zeros
pub wire-zeros : (n : ℕ) → replicate (2 * n) 0 ≡ wire (replicate n 0)
wire-zeros zero = refl
wire-zeros (suc n) =
    let double : 2 * suc n ≡ suc (suc (2 * n)) = omega arith in
    rw double (ap (λ (t : List ℕ). 0 ∷ (0 ∷ t)) (wire-zeros n))

-- ---- states are written

-- the bytes of the states below i are written
pub record AreWritten (states bytes : List ℕ) (i : ℕ) : Type 0 where
  pub len : length bytes ≡ 2 * length states
  pub done : (k : ℕ) → k < 2 * i → get_or bytes k 0 ≡ get_or (wire states) k 0

pub written_none : (states bytes : List ℕ) → length bytes ≡ 2 * length states →
    AreWritten states bytes 0
written_none states bytes len = record { len = len; done = λ k lt. absurd (omega arith) }

pub written_more : (states bytes : List ℕ) (i low high : ℕ) → i < length states →
    AreWritten states bytes i → low ≡ get_or states i 0 % 256 → high ≡ get_or states i 0 / 256 →
    AreWritten states (set (set bytes (2 * i) low) (2 * i + 1) high) (i + 1)
written_more states bytes i low high lt written l h =
    grind (arith, length-set, get_or-set_same, wire_high, get_or-set_other, wire_low)

pub written_all : (states bytes : List ℕ) (i : ℕ) → length states ≤ i → AreWritten states bytes i →
    bytes ≡ wire states
written_all states bytes i le written =
    ext_get_or 0 bytes (wire states) (written.len ∙ sym (length-wire states))
    (λ k lt. written.done k (omega (arith, written.len)))

-- what was written over all bytes of a list is that list
pub all_written : (new items : List ℕ) (n : ℕ) → length new ≡ n →
    take n (new ++ drop (length new) items) ≡ new
all_written new items n len = grind (arith, nat_tests, take-append-le, take_all)

-- states that were written are kept as a section's
pub kept_wire : (states : List ℕ) (filled : ℕ) → length states ≡ section_cells →
    ((i : ℕ) → get_or states i 0 < 65536) → filled ≡ blocks_in states → IsKept (wire states) filled
kept_wire states filled len fit counted = record {
  sized = length-wire states ∙ ap (λ (k : ℕ). 2 * k) len;
  are_bytes = λ i. elim (cases_eq (i % 2) 0) [
    | inl even ↦ let place : i ≡ 2 * (i / 2) = omega arith in let low = wire_low states (i / 2) in
        rw place (rw low (omega arith))
    | inr odd ↦ let place : i ≡ 2 * (i / 2) + 1 = omega arith in let high =
        wire_high states (i / 2) in rw place (rw high (omega (arith, fit (i / 2))))
  ];
  counted = rw (paired-wire states) counted;
}

-- ---- sections are exchanged

-- of the sections below i those that pass the test are the made ones
pub record AreSwapped (test : ℕ → Bool) (old made new left : List (List ℕ)) (i : ℕ) : Type 0 where
  pub len : length new ≡ length old
  pub left_len : length left ≡ length made
  pub done : (k : ℕ) → k < i → nth_section new k ≡ cond (test k) (nth_section made k)
      (nth_section old k)
  pub rest : (k : ℕ) → i ≤ k → nth_section new k ≡ nth_section old k
  pub made_rest : (k : ℕ) → i ≤ k → nth_section left k ≡ nth_section made k

pub swapped_none : (test : ℕ → Bool) (old made : List (List ℕ)) →
    AreSwapped test old made old made 0
swapped_none test old made = grind (arith, nat_tests)

pub swapped_more : (test : ℕ → Bool) (old made new left : List (List ℕ)) (i : ℕ)
    (section other : List ℕ) → i < length old → AreSwapped test old made new left i →
    section ≡ cond (test i) (nth_section left i) (nth_section new i) →
    AreSwapped test old made (set new i section) (set left i other) (i + 1)
swapped_more test old made new left i section other lt swapped is =
    grind (arith, nat_tests, length-set, cases_eq, get_or-set_same, get_or-set_other)
