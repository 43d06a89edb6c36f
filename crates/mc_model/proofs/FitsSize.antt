-- How long spellings are at most, and which packets a client so decodes.
use Rattle.std.proofs.Common.{ℕ, ◌+◌, ◌*◌, ◌^◌, ◌<◌, ◌≤◌, List, ◌∷◌, ◌++◌, length, arith, []}
use Rattle.std.specs.List.{AllByRecursion}
use Rattle.std.specs.Int.{Width, byte_len, w32}
use Rattle.std.proofs.lemmas.List.{length-append}
use Rattle.std.specs.Prelude.{unsigned_abs}
use lib.IntN.{ℤ, pos, negsuc}
use mir.Val.{SFits}
use Rattle.mc_bytes.specs.Numbers.{IsWide, number_spelling}
use Rattle.mc_bytes.specs.Signed.{signed_fits}
use Rattle.mc_bytes.specs.Many.{AllFit, all_most}
use Rattle.mc_fields.specs.Varint.{varint_spelling}
use Rattle.mc_fields.specs.VarintFormat.{IsChain-some, varint_spelled, varint-fits, five}
use Rattle.mc_fields.specs.Text.{text_spelling}
use Rattle.mc_fields.specs.Row.{Entry, Fits, spelling}
use Rattle.mc_frame.specs.Frame.{IsPayload}

-- a list of so many bytes at most
abbrev pub AtMost : ℕ → List ℕ → Type 0
AtMost most bytes = length bytes ≤ most

-- two lists, one behind the other
pub at_most_joined : (a b : ℕ) (xs ys : List ℕ) → AtMost a xs → AtMost b ys →
    AtMost (a + b) (xs ++ ys)
at_most_joined a b xs ys x y = omega (arith, x, y, length-append xs ys)

-- so many at most, and so more at most
pub at_most_less : (a b : ℕ) (bytes : List ℕ) → a ≤ b → AtMost a bytes → AtMost b bytes
at_most_less a b bytes le few = omega (arith, le, few)

-- few bytes are not too many
pub few_bytes : (most : ℕ) (bytes : List ℕ) → most ≤ 2000000 → AtMost most bytes →
    AtMost 2000000 bytes
few_bytes most bytes small few = at_most_less most 2000000 bytes small few

-- a VarInt has one byte at least and five at most
pub varint_size : (value : ℤ) → SFits w32 value →
    (0 < length (varint_spelling value)) × AtMost 5 (varint_spelling value)
varint_size value fits =
    let s = varint_spelled 5 five value (varint-fits value fits) in
    (IsChain-some (varint_spelling value) s.chain, s.within)

-- a number has as many as its width
pub number_size : (w : Width) → IsWide w → (n : ℕ) → AtMost (byte_len w) (number_spelling w n)
unfolding number_spelling
number_size w wide n = let len = wide.len n in omega (arith, len)

-- a text has five more than its own at most
pub text_size : (most : ℕ) (text : List ℕ) → most < 2 ^ 31 → AtMost most text →
    AtMost (5 + most) (text_spelling text)
unfolding text_spelling
text_size most text small few = at_most_joined 5 most _ text
    (varint_size (pos (length text)) (record { sfits = omega (arith, few, small) })).1 few

-- a packet whose fields are not too many bytes is a payload
pub spelling_payload : {P : Type 0} (entry : Entry P) → Fits entry →
    AtMost 2000000 (entry.row.format.spelling entry.fields)
    → IsPayload (spelling entry)
spelling_payload entry fits few =
    let id = varint_size (pos entry.row.id) (record { sfits = fits.0 }) in
    let all = length-append (varint_spelling (pos entry.row.id))
    (entry.row.format.spelling entry.fields) in
    record { some = omega (arith, id.0, all); counted = omega (arith, id.1, all, few) }

-- ---- with the bounds of formats

-- by which the fields of a packet have a spelling
pub ruleset fields = (arith, signed_fits, varint-fits)

-- what holds of each of a list, for the format of the list
pub all_fit : {A : Type 0} (P fits : A → Type 0) → ((a : A) → P a → fits a) → (xs : List A) →
    AllByRecursion P xs → AllFit fits xs
all_fit P fits each [] a = tt
all_fit P fits each (x ∷ xs) a = (each x a.0, all_fit P fits each xs a.1)

-- where none has a greater bound, the bound of a list is that of as many of them
pub all_few : {A : Type 0} (P : A → Type 0) (most : A → ℕ) (each : ℕ) →
    ((a : A) → P a → most a ≤ each) → (xs : List A) → AllByRecursion P xs →
    all_most most xs ≤ length xs * each
all_few P most each le [] a = omega arith
all_few P most each le (x ∷ xs) a =
    omega (arith, le x a.0, all_few P most each le xs a.1)

-- numbers of 31 bits and a sign
pub number_fits : (z : ℤ) → unsigned_abs z < 2 ^ 31 → SFits w32 z
number_fits (pos n) small = record { sfits = omega (arith, small) }
number_fits (negsuc n) small = record { sfits = omega (arith, small) }
