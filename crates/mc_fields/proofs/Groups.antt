-- The sum of the groups so far, and what reading the other groups adds to it.
use Rattle.std.proofs.Common.{◌≡◌, ℕ, suc, ◌+◌, ◌-◌, ◌*◌, ◌%◌, ◌<◌, ◌≤◌, List, ◌∷◌, ◌++◌, length}
use Rattle.std.proofs.Common.{take, drop, get_or, append_assoc, slice_set, ◌/◌, Result, Ok, Err}
use Rattle.std.proofs.Common.{refl, sym, ap, ◌∙◌, arith, add-one, lt-ltb}
use Rattle.std.proofs.lemmas.Bool.{le-ltb}
use Rattle.std.proofs.Math.ListN.{drop_of_length-le}
use Rattle.std.proofs.Math.Seq.{drop-cons, take-suc-set}
use Rattle.mc_bytes.specs.declared.fault.Kind.{Kind}
use Rattle.mc_bytes.specs.declared.fault.Kind.TheVariants.{Short, LongVarInt}
use Rattle.mc_bytes.specs.Reading.{◌>>=◌}
use Rattle.mc_fields.specs.Varint.{groups_read, groups_spelling}

-- what was read, raised by the groups before it
abbrev pub raised : ℕ → ℕ → Result (ℕ × List ℕ) Kind → Result (ℕ × List ℕ) Kind
raised sum weight read = read >>= λ high. Ok (sum + high.0 * weight, high.1)

pub raised-start : (read : Result (ℕ × List ℕ) Kind) → raised 0 1 read ≡ read
raised-start (Ok x) = ap (λ (n : ℕ). Ok (n, x.1)) (omega arith)
raised-start (Err e) = refl

-- a group that is not the last adds its bits, and the weight rises
pub raised-more : (sum weight room b : ℕ) (bytes : List ℕ) → 128 ≤ b →
    raised sum weight (groups_read (suc room) (b ∷ bytes)) ≡ raised (sum + b % 128 * weight)
    (weight * 128) (groups_read room bytes)
unfolding groups_read
raised-more sum weight room b bytes marked =
    rw (le-ltb b 128 marked) (more (groups_read room bytes))
  where
    more : (read : Result (ℕ × List ℕ) Kind) →
        raised sum weight (read >>= λ high. Ok (b % 128 + 128 * high.0, high.1)) ≡
        raised (sum + b % 128 * weight) (weight * 128) read
    more (Ok x) = ap (λ (n : ℕ). Ok (n, x.1)) (grind arith)
    more (Err e) = refl

-- what is left at place i: nothing, where the bytes end there, and else the byte and the bytes
-- after it
split : (bytes : List ℕ) (i : ℕ) → i < length bytes → drop i bytes ≡ get_or bytes i 0 ∷
    drop (i + 1) bytes
split bytes i there = rw (add-one, drop-cons bytes i 0)

one_more : (room i : ℕ) → i < room → room - i ≡ suc (room - (i + 1))
one_more room i there = omega arith

-- the bytes end before the last group
pub raised-cut : (sum weight room i : ℕ) (bytes : List ℕ) (total : Result (ℕ × List ℕ) Kind) →
    i < room → length bytes ≤ i → raised sum weight (groups_read (room - i) (drop i bytes)) ≡
    total → total ≡ Err Short
unfolding groups_read
raised-cut sum weight room i bytes total there ended e =
    sym e ∙ rw (one_more room i there, drop_of_length-le bytes ended) refl

-- the group of the byte b at place i is the last
pub raised-last : (sum weight room i b group : ℕ) (bytes : List ℕ) (total : Result (ℕ × List ℕ)
    Kind) → i < room → i < length bytes → b ≡ get_or bytes i 0 → group ≡ b % 128 → b < 128 →
    raised sum weight (groups_read (room - i) (drop i bytes)) ≡ total →
    total ≡ Ok (sum + group * weight, drop (i + 1) bytes)
unfolding groups_read
raised-last sum weight room i b group bytes total there within is bits last e =
    let low : group ≡ b = omega arith in
    sym e ∙ rw (one_more room i there, split bytes i within, ← is, lt-ltb b 128 last, low) refl

-- another group follows it
pub raised-next : (sum weight room i b group : ℕ) (bytes : List ℕ) (total : Result (ℕ × List ℕ)
    Kind) → i < room → i < length bytes → b ≡ get_or bytes i 0 → group ≡ b % 128 → 128 ≤ b →
    raised sum weight (groups_read (room - i) (drop i bytes)) ≡ total →
    raised (sum + group * weight) (weight * 128) (groups_read (room - (i + 1)) (drop (i + 1) bytes))
    ≡ total
raised-next sum weight room i b group bytes total there within is bits marked e =
    sym (rw (one_more room i there, split bytes i within, ← is, bits)
    (raised-more sum weight (room - (i + 1)) b (drop (i + 1) bytes) marked)) ∙ e

-- there is no room for another group
pub raised-end : (sum weight room i : ℕ) (bytes : List ℕ) (total : Result (ℕ × List ℕ) Kind) →
    room ≤ i → raised sum weight (groups_read (room - i) (drop i bytes)) ≡ total →
    total ≡ Err LongVarInt
unfolding groups_read
raised-end sum weight room i bytes total full e =
    let none : room - i ≡ 0 = omega arith in
    sym e ∙ rw none refl

-- ---- writing

-- a group is written, and others follow it
pub spelled-more : (room len rest : ℕ) (bytes total : List ℕ) → len < length bytes → 128 ≤ rest →
    take len bytes ++ groups_spelling (suc room) rest ≡ total →
    take (len + 1) (slice_set bytes len (rest % 128 + 128)) ++ groups_spelling room (rest / 128) ≡
    total
unfolding groups_spelling
spelled-more room len rest bytes total there high e =
    let e' = rw (le-ltb rest 128 high) at e in
    rw (add-one, take-suc-set bytes len (rest % 128 + 128) there, append_assoc) e'

-- the last group is written
pub spelled-last : (room len rest : ℕ) (bytes total : List ℕ) → len < length bytes → rest < 128 →
    take len bytes ++ groups_spelling (suc room) rest ≡ total →
    take (len + 1) (slice_set bytes len rest) ≡ total
unfolding groups_spelling
spelled-last room len rest bytes total there low e =
    let e' = rw (lt-ltb rest 128 low) at e in
    rw (add-one, take-suc-set bytes len rest there) e'
