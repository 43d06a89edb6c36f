-- Laws of VarInts: what is read is a spelling, each spelling is read, and the one that is written
-- is the shortest.
use Rattle.std.specs.Prelude.{◌≡◌, ℕ, zero, suc, ◌+◌, ◌*◌, ◌/◌, ◌%◌, ◌^◌, ◌<◌, ◌≤◌, Bool, true}
use Rattle.std.specs.Prelude.{false, cond, List, [], ◌∷◌, ◌++◌, length, nat_lt, Result, Ok, Err}
use Rattle.std.specs.Prelude.{refl}
use Rattle.std.specs.Int.{w32, cast_signed, cast_unsigned}
use Rattle.std.proofs.Common.{sym, subst, ap, ◌∙◌, arith, le-ltb, lt-ltb, ltb-true, ltb-false, lit<}
use Rattle.std.proofs.Math.Nat.{pow-suc, pow-le-pow_right}
use Rattle.std.proofs.Math.Facts.{sfits_to_z, Fits-of_z}
use Rattle.std.proofs.lemmas.Int.{of_z-to_z, to_z-of_z}
use lib.IntN.{ℤ}
use mir.Val.{SFits, Fits}
use Rattle.mc_bytes.specs.declared.fault.Kind.{Kind}
use Rattle.mc_bytes.specs.declared.fault.Stop.{Stop}
use Rattle.mc_bytes.specs.Reading.{IsBytes, ◌>>=◌}
use Rattle.mc_bytes.specs.Format.{IsFound, IsOnly}
use Rattle.mc_bytes.specs.CombineLaws.{ok_is, Found-is, bind_ok}
use Rattle.mc_bytes.specs.NumberLaws.{IsBytes-after}
use Rattle.mc_fields.specs.Varint.{weighed, IsChain, SpellsVarint, groups_read, number_of}
use Rattle.mc_fields.specs.Varint.{varint_read, groups_spelling, varint_spelling}
use Rattle.mc_fields.specs.Varint.{FitsVarint, var_int_read}

-- ---- chains

pub IsChain-cons : (b : ℕ) (bytes : List ℕ) → 128 ≤ b → b < 256 → IsChain bytes
    → IsChain (b ∷ bytes)
IsChain-cons b [] marked small chain = absurd chain
IsChain-cons b (c ∷ bytes) marked small chain = (marked, small, chain)

pub IsChain-some : (bytes : List ℕ) → IsChain bytes → 0 < length bytes
IsChain-some [] chain = absurd chain
IsChain-some (b ∷ bytes) chain = omega arith

-- the sum of so many groups
pub weighed-below : (bytes : List ℕ) → weighed bytes < 128 ^ length bytes
weighed-below [] = omega arith
weighed-below (b ∷ bytes) =
    let rest = weighed-below bytes in
    rw (pow-suc 128 (length bytes)) (omega (arith, rest))

-- ---- reading

pub record Summed (room : ℕ) (bytes : List ℕ) (x : ℕ × List ℕ) : Type 0 where
  pub front : List ℕ
  pub parts : bytes ≡ front ++ x.1
  pub chain : IsChain front
  pub within : length front ≤ room
  pub sum : x.0 ≡ weighed front

Summed-is : (room : ℕ) (bytes : List ℕ) (x y : ℕ × List ℕ) → x ≡ y → Summed room bytes x
    → Summed room bytes y
Summed-is room bytes x y e s = let P : ℕ × List ℕ → Type 0 = λ z. Summed room bytes z in subst P e s

pub groups_found : (room : ℕ) (bytes : List ℕ) (x : ℕ × List ℕ) → IsBytes bytes
    → groups_read room bytes ≡ Ok x → Summed room bytes x
unfolding groups_read
groups_found zero bytes x fits e = absurd cc
groups_found (suc room) [] x fits e = absurd cc
groups_found (suc room) (b ∷ bytes) x fits e =
    step (nat_lt b 128) refl e (λ y. groups_found room bytes y (λ i. fits (suc i)))
  where
    step : (t : Bool) → nat_lt b 128 ≡ t →
        cond t (Ok (b, bytes)) (groups_read room bytes >>= λ high. Ok (
          b % 128 + 128 * high.0,
          high.1,
        )) ≡ Ok x → ((y : ℕ × List ℕ) → groups_read room bytes ≡ Ok y → Summed room bytes y) →
        Summed (suc room) (b ∷ bytes) x
    step true t e rest =
        let low : b < 128 = ltb-true _ _ t in
        Summed-is (suc room) (b ∷ bytes) (b, bytes) x (ok_is Kind _ _ e) (record {
          front = b ∷ [];
          parts = refl;
          chain = low;
          within = omega arith;
          sum = omega arith;
        })
    step false t e rest =
        let marked : 128 ≤ b = ltb-false _ _ t in
        let small : b < 256 = fits 0 in
        let p = bind_ok (groups_read room bytes) (λ (high : ℕ × List ℕ). Ok (
          b % 128 + 128 * high.0,
          high.1,
        )) x e in
        let s = rest p.0 p.1 in
        Summed-is (suc room) (b ∷ bytes) (b % 128 + 128 * p.0.0, p.0.1) x (ok_is Kind _ _ p.2)
        (record {
          front = b ∷ s.front;
          parts = ap (λ (t : List ℕ). b ∷ t) s.parts;
          chain = IsChain-cons b s.front marked small s.chain;
          within = omega (arith, s.within);
          sum = ap (λ (n : ℕ). b % 128 + 128 * n) s.sum;
        })

pub groups_only : (room : ℕ) (front rest : List ℕ) → IsChain front → length front ≤ room
    → groups_read room (front ++ rest) ≡ Ok (weighed front, rest)
unfolding groups_read
groups_only room [] rest chain within = absurd chain
groups_only zero (b ∷ front) rest chain within = absurd (omega arith)
groups_only (suc room) (b ∷ []) rest chain within =
    let low : b % 128 + 128 * 0 ≡ b = omega (arith, chain) in
    rw (lt-ltb b 128 chain, low) refl
groups_only (suc room) (b ∷ c ∷ front) rest chain within =
    rw (le-ltb b 128 chain.0, groups_only room (c ∷ front) rest chain.2 (omega arith)) refl

-- a number that was read came from a sum
number_ok : (bytes : List ℕ) (read : Result (ℕ × List ℕ) Kind) (x : ℤ × List ℕ)
    → number_of bytes read ≡ Ok x
    → (sum : ℕ × List ℕ) × (read ≡ Ok sum) × ((cast_signed w32 (sum.0 % 2 ^ 32), sum.1) ≡ x)
number_ok bytes (Ok sum) x e = (sum, refl, ok_is Stop _ _ e)
number_ok bytes (Err kind) x e = absurd cc

pub varint_found : (room : ℕ) → IsFound (SpellsVarint room) (varint_read room)
varint_found room bytes x fits e =
    let p = number_ok bytes (groups_read room bytes) x e in
    let s = groups_found room bytes p.0 fits p.1 in
    Found-is (SpellsVarint room) bytes (cast_signed w32 (p.0.0 % 2 ^ 32), p.0.1) x p.2 (record {
      front = s.front;
      parts = s.parts;
      spelled = record {
        chain = s.chain;
        within = s.within;
        sum = ap (λ (n : ℕ). cast_signed w32 (n % 2 ^ 32)) s.sum;
      };
      rest_fits = IsBytes-after bytes s.front p.0.1 s.parts fits;
    })

pub varint_only : (room : ℕ) (Rest : List ℕ → Type 0)
    → IsOnly Rest (SpellsVarint room) (varint_read room)
varint_only room Rest value front rest ends s =
    rw (groups_only room front rest s.chain s.within, ← s.sum) refl

-- ---- writing

-- the high groups of a number have one power less
pub high_below : (n room : ℕ) → n < 128 ^ suc room → n / 128 < 128 ^ room
high_below n room fits = let wide : n < 128 ^ room * 128 = rw pow-suc at fits in omega (arith, wide)

pub some_room : (room n : ℕ) → n < 128 ^ suc room → 128 ≤ n → 0 < room
some_room zero n fits high = absurd (omega (arith, fits))
some_room (suc room) n fits high = omega arith

pub groups-chain : (room n : ℕ) → n < 128 ^ room → 0 < room
    → IsChain (groups_spelling room n) × (weighed (groups_spelling room n) ≡ n)
unfolding groups_spelling
groups-chain zero n fits some = absurd (omega arith)
groups-chain (suc room) n fits some =
    step (nat_lt n 128) refl (λ more. groups-chain room (n / 128) (high_below n room fits) more)
  where
    step : (t : Bool) → nat_lt n 128 ≡ t → (0 < room → IsChain (groups_spelling room (n / 128)) ×
        (weighed (groups_spelling room (n / 128)) ≡ n / 128)) →
        IsChain (cond t (n ∷ []) ((n % 128 + 128) ∷ groups_spelling room (n / 128))) ×
        (weighed (cond t (n ∷ []) ((n % 128 + 128) ∷ groups_spelling room (n / 128))) ≡ n)
    step true t rest = let low : n < 128 = ltb-true _ _ t in (low, omega arith)
    step false t rest =
        let high : 128 ≤ n = ltb-false _ _ t in
        let r = rest (some_room room n fits high) in
        let sum = r.1 in (
          IsChain-cons (n % 128 + 128) (groups_spelling room (n / 128)) (omega arith) (omega arith)
              r.0,
          omega (arith, sum),
        )

-- a number below so many groups has no more of them
pub groups-within : (room n k : ℕ) → 0 < k → n < 128 ^ k → length (groups_spelling room n) ≤ k
unfolding groups_spelling
groups-within zero n k some fits = omega arith
groups-within (suc room) n zero some fits = absurd (omega arith)
groups-within (suc room) n (suc k) some fits =
    step (nat_lt n 128) refl (λ more. groups-within room (n / 128) k more (high_below n k fits))
  where
    step : (t : Bool) → nat_lt n 128 ≡ t → (0 < k → length (groups_spelling room (n / 128)) ≤ k) →
        length (cond t (n ∷ []) ((n % 128 + 128) ∷ groups_spelling room (n / 128))) ≤ suc k
    step true t rest = omega arith
    step false t rest = let r = rest (some_room k n fits (ltb-false _ _ t)) in omega (arith, r)

-- ---- the numbers that room for so many bytes has

-- the number without its sign is the sum of its groups, in 32 bits
unsigned-sum : (room : ℕ) (value : ℤ) (bytes : List ℕ) → SpellsVarint room value bytes
    → cast_unsigned w32 value ≡ weighed bytes % 2 ^ 32
unsigned-sum room value bytes s =
    ap (cast_unsigned w32) s.sum ∙ of_z-to_z w32 (weighed bytes % 2 ^ 32) (omega arith)

pub varint_fit : (room : ℕ) (value : ℤ) (bytes : List ℕ) → SpellsVarint room value bytes
    → FitsVarint room value
varint_fit room value bytes s =
    let small : Fits w32 (weighed bytes % 2 ^ 32) = record { fits = omega arith } in
    let P : ℤ → Type 0 = λ z. SFits w32 z in
    let few : 128 ^ length bytes ≤ 128 ^ room = pow-le-pow_right (omega arith) s.within in
    let unsigned = unsigned-sum room value bytes s in
    let below = weighed-below bytes in
    (subst P (sym s.sum) (sfits_to_z small), omega (arith, unsigned, below, few))

pub varint_spelled : (room : ℕ) → 0 < room → (value : ℤ) → FitsVarint room value
    → SpellsVarint room value (varint_spelling value)
unfolding varint_spelling
varint_spelled room some value fits =
    let n = cast_unsigned w32 value in
    let small : cast_unsigned w32 value < 2 ^ 32 = (Fits-of_z fits.0).fits in
    let written = groups-chain 5 (cast_unsigned w32 value) (omega (arith, small)) (omega arith) in
    let whole : weighed (groups_spelling 5 (cast_unsigned w32 value)) % 2 ^ 32 ≡
    cast_unsigned w32 value = omega (arith, small, written.1) in
    record {
      chain = written.0;
      within = groups-within 5 (cast_unsigned w32 value) room some fits.1;
      sum = sym (ap (cast_signed w32) whole ∙ to_z-of_z w32 value fits.0);
    }

-- each number of 32 bits has a spelling of five bytes at most
pub varint-fits : (value : ℤ) → SFits w32 value → FitsVarint 5 value
varint-fits value signed =
    let small : cast_unsigned w32 value < 2 ^ 32 = (Fits-of_z signed).fits in
    (signed, omega (arith, small))

-- no spelling is shorter than the one that is written
pub varint-shortest : (room : ℕ) (value : ℤ) (bytes : List ℕ) → SpellsVarint room value bytes
    → length (varint_spelling value) ≤ length bytes
unfolding varint_spelling
varint-shortest room value bytes s =
    let unsigned = unsigned-sum room value bytes s in
    let below = weighed-below bytes in
    groups-within 5 (cast_unsigned w32 value) (length bytes) (IsChain-some bytes s.chain)
    (omega (arith, unsigned, below))

pub three : 0 < 3
three = lit< tt

pub five : 0 < 5
five = lit< tt

-- ---- as a field

pub var_int_found : IsFound (SpellsVarint 5) var_int_read
unfolding var_int_read
var_int_found = varint_found 5

pub var_int_only : (Rest : List ℕ → Type 0) → IsOnly Rest (SpellsVarint 5) var_int_read
unfolding var_int_read
var_int_only = varint_only 5
