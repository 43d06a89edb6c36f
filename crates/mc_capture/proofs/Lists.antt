use Rattle.std.proofs.Common.{◌≡◌, ℕ, ◌+◌, ◌≤◌, Option, List, [], ◌∷◌, ◌++◌, length, take, drop, min}
use Rattle.std.proofs.Common.{ap, sym, ◌∙◌}
use Rattle.std.specs.Int.{w32, from_be_bytes}
use Rattle.std.proofs.lemmas.List.{length-take-le, take-append-le, take_min}
use Rattle.std.proofs.Math.Seq.{take-add, take-append-add}
use Rattle.std.proofs.Math.Nat.{min-le_right}
use Rattle.mc_bytes.specs.Numbers.{IsBytes-drop, IsBytes-take, IsBytes-after, wide_32}
use Rattle.mc_bytes.specs.NumberBytes.{number_spelling}
use Rattle.mc_bytes.specs.Reading.{IsBytes}
use Rattle.mc_wire.specs.Stream.{Grows}
use Rattle.mc_wire.proofs.Streams.{Grows-trans}
use Rattle.mc_capture.specs.Grammar.{heading}

-- four bytes are what their number is spelled by
spelled_back : (bytes : List ℕ) → length bytes ≡ 4 → IsBytes bytes
    → number_spelling w32 (from_be_bytes w32 bytes) ≡ bytes
unfolding number_spelling
spelled_back bytes len fits = wide_32.back bytes len fits

-- a heading, cut off the front of some bytes piece by piece
pub heading_read : (bytes rest after first second : List ℕ) (kind connection size : ℕ)
    → IsBytes bytes
    → bytes ≡ kind ∷ rest
    → 4 ≤ length rest
    → first ≡ take 4 rest
    → after ≡ drop 4 rest
    → 4 ≤ length after
    → second ≡ take 4 after
    → connection ≡ from_be_bytes w32 first
    → size ≡ from_be_bytes w32 second
    → take 9 bytes ≡ heading kind connection size
heading_read bytes rest after first second kind connection size fits parts enough is_first is_after
    enough' is_second is_connection is_size =
    let rest_fits : IsBytes rest = IsBytes-after bytes (kind ∷ []) rest parts fits in
    let fits1 : IsBytes (take 4 rest) = IsBytes-take 4 rest rest_fits in
    let fits2 : IsBytes (take 4 (drop 4 rest)) =
    IsBytes-take 4 (drop 4 rest) (IsBytes-drop 4 rest rest_fits) in
    let enough2 : 4 ≤ length (drop 4 rest) = rw (← is_after) enough' in
    let back1 : number_spelling w32 connection ≡ take 4 rest =
    rw (is_connection, is_first) (spelled_back (take 4 rest) (length-take-le 4 rest enough) fits1) in
    let back2 : number_spelling w32 size ≡ take 4 (drop 4 rest) =
    rw (is_size, is_second, is_after) (spelled_back (take 4 (drop 4 rest))
    (length-take-le 4 (drop 4 rest) enough2) fits2) in
    rw (parts, back1, back2) (ap (λ (xs : List ℕ). kind ∷ xs) (take-add 4 4 rest))

-- what a buffer has, and what was read behind it
pub read_on : (a n : ℕ) (xs ys post : List ℕ) → a ≤ length xs → n ≤ length ys
    → take (a + n) (take a xs ++ (ys ++ post)) ≡ take a xs ++ take n ys
read_on a n xs ys post within enough =
    let len : length (take a xs) ≡ a = length-take-le a xs within in
    ap (λ (m : ℕ). take (m + n) (take a xs ++ (ys ++ post))) (sym len)
    ∙ take-append-add (take a xs) (ys ++ post) n
    ∙ ap (λ (more : List ℕ). take a xs ++ more) (take-append-le n ys post enough)

-- a first part of the first of two pieces is one of both
pub part_of_first : (n : ℕ) (first second : List ℕ) (old new : Option (List ℕ))
    → Grows old new (take n first)
    → (m : ℕ) × Grows old new (take m (first ++ second))
part_of_first n first second old new grown =
    let len : take (min n (length first)) (first ++ second) ≡ take n first =
    take-append-le (min n (length first)) first second (min-le_right n (length first))
    ∙ take_min n first in
    (min n (length first), rw len grown)

-- and so is the first piece with a first part of the second
pub part_of_second : (n : ℕ) (first second : List ℕ) (old between new : Option (List ℕ))
    → Grows old between first
    → Grows between new (take n second)
    → (m : ℕ) × Grows old new (take m (first ++ second))
part_of_second n first second old between new one two = (
  length first + n,
  rw (take-append-add first second n) (Grows-trans old between new first (take n second) one two),
)
