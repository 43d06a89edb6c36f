-- The packets that a bot sends have bytes, and a frame has room for them.
use Rattle.std.proofs.Common.{◌≡◌, ℕ, ℤ, ◌^◌, ◌<◌, true, List, lit<, lit≤, arith, refl}
use Rattle.std.proofs.Common.{subst, sym}
use Rattle.std.proofs.lemmas.Bool.Decides.{nat_tests}
use Rattle.std.proofs.lemmas.Int.{ints, to_z-of_z}
use Rattle.std.specs.Prelude.{FitsSigned, codes, unsigned_abs}
use Rattle.std.specs.Int.{w8, w16, w32}
use lib.IntN.{pos, negsuc}
use mir.Syntax.{Width}
use mir.Val.{to_z, of_z}
use Rattle.mc_fields.specs.declared.position.Cell.{Cell}
use Rattle.mc_fields.specs.Position.{FitsCell}
use Rattle.mc_fields.specs.Row.{most}
use Rattle.mc_fields.specs.RowLaws.{fits_spelled}
use Rattle.mc_fields.specs.Text.{FitsText}
use Rattle.mc_fields.specs.TextFormat.{SpellableText}
use Rattle.mc_fields.specs.Pattern.{Represents}
use Rattle.mc_frame.specs.FrameLaws.{packet_payload}
use Rattle.mc_model.proofs.FitsSize.{fields}
use Rattle.mc_model.proofs.FitsText.{short_string, short_where}
use Rattle.mc_model.proofs.PatternFacts.{pattern_one}
use Rattle.mc_model.specs.Numbers.{pattern_of}
use Rattle.mc_replica.specs.Asking.{CanAsk}
use Rattle.mc_slots.specs.declared.slot.Slot.{Slot}
use Rattle.mc_slots.specs.declared.slot.Slot.TheVariants.{Empty}
use Rattle.mc_slots.specs.Slot.{FitsSlot}
use Rattle.mc_up.specs.declared.play_up.PlayUp.{PlayUp}
use Rattle.mc_up.specs.declared.play_up.PlayUp.TheVariants.{KeepAlive, Chat, Position, Look}
use Rattle.mc_up.specs.declared.play_up.PlayUp.TheVariants.{PositionLook, Digging, Placement}
use Rattle.mc_up.specs.declared.play_up.PlayUp.TheVariants.{Held, CloseWindow, ClickWindow}
use Rattle.mc_up.specs.declared.play_up.PlayUp.TheVariants.{Confirm, Settings}
use Rattle.mc_up.specs.PlayUp.{entry_of, FitsPlayUp, SpellsPlayUp}

-- a number as a field holds it
pub again : (w : Width) (z : ℤ) → FitsSigned w z → FitsSigned w (to_z w (of_z w z))
again w z fits = subst (FitsSigned w) (sym (to_z-of_z w z fits)) fits

small : (z : ℤ) → FitsSigned w32 z → unsigned_abs z < 2 ^ 32
small (pos n) fits = let f = fits.sfits in omega (arith, ints, f)
small (negsuc n) fits = let f = fits.sfits in omega (arith, ints, f)

-- the pattern of a number that was passed is the one that is worked out
pub pattern_at : (n : ℤ) (p : ℕ) → FitsSigned w32 n → p < 2 ^ 64 → (to_z w32 (of_z w32 n) ≡ pos 0 →
    p ≡ 0)
    → Represents (to_z w32 (of_z w32 n)) p → p ≡ pattern_of n
pattern_at n p range fits none stands = grind (arith, nat_tests, to_z-of_z, small, pattern_one)

can_ask : (p : PlayUp) → FitsPlayUp p → most (entry_of p) < 2 ^ 21 → CanAsk p
can_ask (KeepAlive number) fits few = record {
  spelled = (_, fits_spelled (entry_of (KeepAlive number)) fits);
  counted = (packet_payload (entry_of (KeepAlive number)) fits few).counted;
}
can_ask p fits few = record {
  spelled = (_, fits_spelled (entry_of p) fits);
  counted = (packet_payload (entry_of p) fits few).counted;
}

pub can_move : (x y z : ℕ) → x < 2 ^ 64 → y < 2 ^ 64 → z < 2 ^ 64 → CanAsk (Position x y z true)
can_move x y z at_x at_y at_z = can_ask (Position x y z true) (search fields) (lit< tt)

pub can_look : (yaw pitch : ℕ) → yaw < 2 ^ 32 → pitch < 2 ^ 32 → CanAsk (Look yaw pitch true)
can_look yaw pitch at_yaw at_pitch = can_ask (Look yaw pitch true) (search fields) (lit< tt)

pub can_place_look : (x y z yaw pitch : ℕ) → x < 2 ^ 64 → y < 2 ^ 64 → z < 2 ^ 64 →
    yaw < 2 ^ 32 → pitch < 2 ^ 32 → CanAsk (PositionLook x y z yaw pitch true)
can_place_look x y z yaw pitch at_x at_y at_z at_yaw at_pitch =
    can_ask (PositionLook x y z yaw pitch true) (search fields) (lit< tt)

pub can_dig : (status : ℤ) (place : Cell) (face : ℤ) → FitsSigned w8 status → FitsCell place →
    FitsSigned w8 face → CanAsk (Digging status place face)
can_dig status place face step at side =
    can_ask (Digging status place face) (search fields) (lit< tt)

pub can_place : (place : Cell) (face : ℤ) → FitsCell place → FitsSigned w8 face →
    CanAsk (Placement place face Empty (pos 8) (pos 8) (pos 8))
can_place place face at side =
    let eight : FitsSigned w8 (pos 8) = record { sfits = lit< tt } in
    can_ask (Placement place face Empty (pos 8) (pos 8) (pos 8)) (search fields) (lit< tt)

pub can_hold : (slot : ℤ) → FitsSigned w16 slot → CanAsk (Held slot)
can_hold slot fits = can_ask (Held slot) (search fields) (lit< tt)

pub can_close : (window : ℕ) → window < 256 → CanAsk (CloseWindow window)
can_close window fits = can_ask (CloseWindow window) (search fields) (lit< tt)

pub can_say : (text : List ℕ) → FitsText 100 text → CanAsk (Chat text)
can_say text fits =
    let spellable : SpellableText 100 text =
    record { fits = fits; sized = omega (arith, fits.few_bytes) } in
    can_ask (Chat text) (search fields) (omega (arith, fits.few_bytes))

pub can_view : (view : ℤ) → FitsSigned w8 view →
    CanAsk (Settings (codes "en_US") view (pos 0) true 127)
can_view view fits =
    let locale : SpellableText 32767 (codes "en_US") = short_string 5 (codes "en_US") (lit≤ tt)
    (short_where 5 (codes "en_US") refl) in
    let none : FitsSigned w8 (pos 0) = record { sfits = lit< tt } in
    can_ask (Settings (codes "en_US") view (pos 0) true 127) (search fields) (lit< tt)

pub can_answer : (number : ℤ) → FitsSigned w32 number → CanAsk (KeepAlive number)
can_answer number fits = can_ask (KeepAlive number) (search fields) (lit< tt)

pub can_confirm : (window number : ℤ) → FitsSigned w8 window → FitsSigned w16 number →
    CanAsk (Confirm window number true)
can_confirm window number at_window at_number =
    can_ask (Confirm window number true) (search fields) (lit< tt)

-- ---- clicks

pub click_spelled : (window : ℕ) (slot button number mode : ℤ) (item : Slot) → window < 256 →
    FitsSigned w16 slot → FitsSigned w8 button → FitsSigned w16 number → FitsSigned w8 mode →
    FitsSlot item
    → (bytes : List ℕ) × SpellsPlayUp (ClickWindow window slot button number mode item) bytes
click_spelled window slot button number mode item a b c d e f =
    (_, fits_spelled (entry_of (ClickWindow window slot button number mode item)) (search fields))

pub can_click : (window : ℕ) (slot button number mode : ℤ) → window < 256 →
    FitsSigned w16 slot → FitsSigned w8 button → FitsSigned w16 number → FitsSigned w8 mode
    → CanAsk (ClickWindow window slot button number mode Empty)
can_click window slot button number mode a b c d e =
    can_ask (ClickWindow window slot button number mode Empty) (search fields) (lit< tt)
