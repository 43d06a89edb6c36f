-- A text that a row has said fits its packet.
use Rattle.std.proofs.Common.{ℕ, ◌≤◌, List, length, ap, lit<, arith}
use Rattle.std.specs.Int.{w8, cast_unsigned}
use Rattle.std.specs.Str.{IsUtf8, chars}
use Rattle.std.proofs.lemmas.Str.{encodes-chars, length-le-encodes}
use lib.IntN.{pos}
use Rattle.mc_bytes.specs.Signed.{signed_fits}
use Rattle.mc_bytes.specs.Numbers.{wide_8}
use Rattle.mc_fields.specs.TextFormat.{SpellableText}
use Rattle.mc_packets.specs.declared.down.Down.TheVariants.{Chat}
use Rattle.mc_packets.specs.Down.{FitsDown, entry_of}
use Rattle.mc_model.specs.Delta.{chat_packet}
use Rattle.mc_model.proofs.FitsSize.{AtMost, at_most_joined, few_bytes, text_size, number_size}
use Rattle.mc_model.proofs.FitsSize.{spelling_payload}
use Rattle.mc_sending.specs.Sending.{IsClear}

-- a short text has a spelling
short_fits : (text : List ℕ) → IsUtf8 text → AtMost 400 text → SpellableText 32767 text
short_fits text utf8 few = record {
  fits = record {
    utf8 = utf8;
    few_bytes = omega (arith, few);
    few_points =
        let le = length-le-encodes (chars text) in
        let same = ap (λ (bytes : List ℕ). length bytes) (encodes-chars text utf8) in
        omega (arith, few, le, same);
  };
  sized = omega (arith, few);
}

-- so has the packet that shows it
pub said_clear : (text : List ℕ) → IsUtf8 text → length text ≤ 400 → IsClear (chat_packet text)
said_clear text utf8 few =
    let fits : FitsDown (Chat text (pos 0)) =
    (lit< tt, (short_fits text utf8 few, signed_fits w8 (pos 0) (record { sfits = lit< tt }))) in
    let size = at_most_joined 405 1 _ _ (text_size 400 text (omega arith) few)
    (number_size w8 wide_8 (cast_unsigned w8 (pos 0))) in (
      fits,
      spelling_payload (entry_of (Chat text (pos 0))) fits (few_bytes 406 _ (omega arith) size),
    )
