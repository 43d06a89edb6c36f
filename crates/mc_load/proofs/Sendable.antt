-- The packets of a load have bytes, and a frame has room for them.
use Rattle.std.proofs.Common.{◌≡◌, ℕ, ℤ, ◌+◌, ◌^◌, ◌<◌, true, List, lit<, lit≤}
use Rattle.std.proofs.Common.{arith, refl, rules, subst, sym}
use Rattle.std.proofs.lemmas.Fmt.{IsAscii-decimal, length-decimal-le}
use Rattle.std.proofs.lemmas.Int.{to_z-of_z, to_z_pos}
use Rattle.std.specs.Prelude.{FitsSigned, codes, decimal, unsigned_abs}
use Rattle.std.specs.Int.{w8, w32}
use lib.IntN.{pos, ◌+ℤ◌}
use mir.Val.{to_z, of_z}
use Rattle.mc_fields.specs.Pattern.{Represents}
use Rattle.mc_fields.specs.Position.{FitsCell}
use Rattle.mc_fields.specs.Row.{most}
use Rattle.mc_fields.specs.RowLaws.{fits_spelled}
use Rattle.mc_fields.specs.TextFormat.{SpellableText}
use Rattle.mc_frame.specs.Frame.{IsPayload}
use Rattle.mc_frame.specs.FrameLaws.{packet_payload}
use Rattle.mc_hello.specs.declared.login_up.LoginUp.TheVariants.{Start}
use Rattle.mc_hello.specs.Hand as hand
use Rattle.mc_hello.specs.LoginUp as login
use Rattle.mc_up.specs.declared.play_up.PlayUp.{PlayUp}
use Rattle.mc_up.specs.declared.play_up.PlayUp.TheVariants.{Digging, KeepAlive, Position}
use Rattle.mc_up.specs.PlayUp.{entry_of, FitsPlayUp}
use Rattle.mc_model.proofs.FitsSize.{fields}
use Rattle.mc_model.proofs.FitsText.{IsShort, short_fits, short_joined, short_less}
use Rattle.mc_model.proofs.FitsText.{short_string, short_where}
use Rattle.mc_model.proofs.PatternFacts.{pattern_one}
use Rattle.mc_model.specs.Numbers.{pattern_of}
use Rattle.mc_load.specs.Framed.{CanSend}
use Rattle.mc_load.specs.Load.{ground_cell, hello, name_of, two_columns}

-- ---- numbers

-- the pattern of a number that is not too large is the one that is worked out, however it was cast
pub pattern_at : (z : ℤ) (n p : ℕ) → z ≡ pos n → n < 2 ^ 31 → p < 2 ^ 64 → (z ≡ pos 0 → p ≡ 0) →
    Represents z p → p ≡ pattern_of (pos n)
pattern_at z n p is few fits none stands =
    let small : unsigned_abs z < 2 ^ 33 =
    subst (λ (k : ℤ). unsigned_abs k < 2 ^ 33) (sym is) (omega arith) in
    subst (λ (k : ℤ). p ≡ pattern_of k) is (pattern_one z p small fits none stands)

-- eight more than a small number that was cast
pub eight_on : (n : ℕ) → n < 4 → to_z w32 (of_z w32 (pos 8 +ℤ to_z w32 n)) ≡ pos (8 + n)
eight_on n few = rw (to_z_pos w32 n (omega arith))
    (to_z-of_z w32 (pos (8 + n)) (record { sfits = omega arith }))

-- ---- packets of play

can_send : (p : PlayUp) → FitsPlayUp p → most (entry_of p) < 2 ^ 21 → CanSend p
can_send (KeepAlive number) fits few = record {
  spelled = (_, fits_spelled (entry_of (KeepAlive number)) fits);
  held = packet_payload (entry_of (KeepAlive number)) fits few;
}
can_send p fits few = record {
  spelled = (_, fits_spelled (entry_of p) fits);
  held = packet_payload (entry_of p) fits few;
}

pub can_move : (x y z : ℕ) → x < 2 ^ 64 → y < 2 ^ 64 → z < 2 ^ 64 → CanSend (Position x y z true)
can_move x y z at_x at_y at_z = can_send (Position x y z true) (search fields) (lit< tt)

pub can_dig : (i t : ℕ) → CanSend (Digging (pos 2) (ground_cell i t) (pos 1))
can_dig i t =
    let two : FitsSigned w8 (pos 2) = record { sfits = lit< tt } in
    let one : FitsSigned w8 (pos 1) = record { sfits = lit< tt } in
    let at : FitsCell (ground_cell i t) = search rules in
    can_send (Digging (pos 2) (ground_cell i t) (pos 1)) (search fields) (lit< tt)

pub can_answer : (number : ℤ) → FitsSigned w32 number → CanSend (KeepAlive number)
can_answer number fits = can_send (KeepAlive number) (search fields) (lit< tt)

pub can_view : CanSend two_columns
can_view =
    let locale : SpellableText 32767 (codes "en_US") = short_string 5 (codes "en_US") (lit≤ tt)
    (short_where 5 (codes "en_US") refl) in
    let none : FitsSigned w8 (pos 0) = record { sfits = lit< tt } in
    let view : FitsSigned w8 (pos 2) = record { sfits = lit< tt } in
    can_send two_columns (search fields) (lit< tt)

-- ---- packets before play

hello_fits : hand.FitsHand hello
hello_fits =
    let address : SpellableText 255 (codes "localhost") = short_fits 255 (codes "localhost")
    (lit< tt) (short_less 9 255 (codes "localhost") (lit≤ tt)
    (short_where 9 (codes "localhost") refl)) in
    let protocol : FitsSigned w32 (pos 47) = record { sfits = lit< tt } in
    let wanted : FitsSigned w32 (pos 2) = record { sfits = lit< tt } in
    search fields

pub hello_spelled : (bytes : List ℕ) × hand.SpellsHand hello bytes
hello_spelled = (_, fits_spelled (hand.entry_of hello) hello_fits)

pub hello_payload : IsPayload (hand.spelling_of hello)
hello_payload = packet_payload (hand.entry_of hello) hello_fits (lit< tt)

number_short : (n : ℕ) → n < 50 → IsShort 2 (decimal n)
number_short n small = record {
  ascii = IsAscii-decimal n (omega arith);
  few = length-decimal-le 2 n (omega arith) (omega arith) (omega arith);
}

-- a name of a letter and a number of two digits at most
name_short : (i : ℕ) → i < 50 → SpellableText 16 (name_of i)
name_short i few = short_fits 16 (name_of i) (lit< tt) (short_less 3 16 (name_of i) (lit≤ tt)
    (short_joined 1 2 (codes "L") (decimal i) (short_where 1 (codes "L") refl)
    (number_short i few)))

start_fits : (i : ℕ) → i < 50 → login.FitsLoginUp (Start (name_of i))
start_fits i few = let name = name_short i few in search fields

pub start_spelled : (i : ℕ) → i < 50 →
    (bytes : List ℕ) × login.SpellsLoginUp (Start (name_of i)) bytes
start_spelled i few = (_, fits_spelled (login.entry_of (Start (name_of i))) (start_fits i few))
