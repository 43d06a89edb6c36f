-- Which texts that are handed out fit: all are ASCII and short.
use Rattle.std.proofs.Common.{◌≡◌, ℕ, zero, suc, ◌+◌, ◌^◌, ◌<◌, ◌≤◌, Bool, true, false, cond}
use Rattle.std.proofs.Common.{List, [], ◌∷◌, ◌++◌, length, refl, arith, ltb-true, lt-ltb, lit<}
use Rattle.std.specs.Prelude.{nat_lt, nat_le, ◌&&◌, codes, decimal, Option, Some, None}
use Rattle.std.specs.List.{list_all}
use Rattle.std.specs.Int.{to_be_bytes, w128}
use Rattle.std.specs.Str.{IsAscii}
use Rattle.std.proofs.lemmas.Bool.{leb-true}
use Rattle.std.proofs.lemmas.List.{length-append}
use Rattle.std.proofs.lemmas.Str.{IsUtf8-from_ascii, chars-IsAscii, IsAscii-append}
use Rattle.std.proofs.lemmas.Fmt.{IsAscii-decimal, length-decimal-le}
use Rattle.std.proofs.lemmas.Bool.Decides.{nat_tests}
use Rattle.uuid.specs.Text.{by_index, is_hyphen_place, hyphen, hex_digit, nibble, digit_place}
use Rattle.uuid.specs.Text.{lower}
use Rattle.serde_json.proofs.OnLiterals.{serde_json_on_literals}
use Rattle.mc_fields.specs.TextFormat.{SpellableText}
use Rattle.mc_model.specs.declared.cause.Refusal.{Refusal}
use Rattle.mc_model.specs.declared.cause.Refusal.TheVariants.{Version, Name, Taken, Full}
use Rattle.mc_model.specs.declared.cause.Cause.{Cause}
use Rattle.mc_model.specs.declared.cause.Cause.TheVariants.{Frame, Packet, BadNumber, Silent}
use Rattle.mc_model.specs.Names.{is_name_byte, is_name, uuid_text}
use Rattle.mc_model.specs.Texts.{chat_json, status_json, refusal_text, farewell_text}

-- ASCII, and so many bytes at most
pub record IsShort (most : ℕ) (text : List ℕ) : Type 0 where
  pub ascii : IsAscii text
  pub few : length text ≤ most

-- such a text fits
pub short_fits : (points : ℕ) (text : List ℕ) → points < 2 ^ 31 → IsShort points text →
    SpellableText points text
short_fits points text small s = record {
  fits = record {
    utf8 = IsUtf8-from_ascii text s.ascii;
    few_bytes =
        omega (arith, s.few);
    few_points = rw (chars-IsAscii text s.ascii) s.few;
  };
  sized = omega (arith, s.few, small);
}

-- so many at most, and so more at most
pub short_less : (a b : ℕ) (text : List ℕ) → a ≤ b → IsShort a text → IsShort b text
short_less a b text le s = record { ascii = s.ascii; few = omega (arith, s.few, le) }

-- also in a field that names no limit
pub short_string : (most : ℕ) (text : List ℕ) → most ≤ 32767 → IsShort most text →
    SpellableText 32767 text
short_string most text le s = short_fits 32767 text (lit< tt) (short_less most 32767 text le s)

-- two of them, one behind the other
pub short_joined : (a b : ℕ) (text other : List ℕ) → IsShort a text → IsShort b other →
    IsShort (a + b) (text ++ other)
short_joined a b text other s t = record {
  ascii = IsAscii-append text other s.ascii t.ascii;
  few =
      omega (arith, s.few, t.few, length-append text other);
}

-- ---- tests

abbrev pub is_low : ℕ → Bool
is_low byte = nat_lt byte 128

-- both tests passed
pub both_true : (a b : Bool) → (a && b) ≡ true → (a ≡ true) × (b ≡ true)
both_true true b e = (refl, e)
both_true false b e = absurd cc

-- a list of low bytes is ASCII
pub all_low : (text : List ℕ) → list_all is_low text ≡ true → IsAscii text
all_low [] t i = omega arith
all_low (b ∷ text) t zero = ltb-true b 128 (both_true (nat_lt b 128) (list_all is_low text) t).0
all_low (b ∷ text) t (suc i) = all_low text (both_true (nat_lt b 128) (list_all is_low text) t).1 i

-- a test that computes
pub short_where : (most : ℕ) (text : List ℕ) →
    (list_all is_low text && nat_le (length text) most) ≡ true → IsShort most text
short_where most text t = grind (arith, nat_tests, all_low, both_true, leb-true)

-- ---- the status

abbrev pub status_around : List ℕ → List ℕ → List ℕ → List ℕ
status_around most online protocol =
    codes "{\"description\":{\"text\":\"craft47\"},\"players\":{\"max\":"
    ++ ((most ++ (codes ",\"online\":" ++ (online ++ codes "}")))
    ++ (codes ",\"version\":{\"name\":\"1.8\",\"protocol\":"
    ++ ((protocol ++ codes "}") ++ codes "}")))

-- the status is these words around its numbers
status_parts : (most online : ℕ) → status_json most online ≡ status_around (decimal most)
    (decimal online) (decimal 47)
unfolding status_json serde_json_on_literals
status_parts most online = refl

-- a small number has two digits at most
short_number : (n : ℕ) → n ≤ 50 → IsShort 2 (decimal n)
short_number n small = record {
  ascii = IsAscii-decimal n (omega arith);
  few =
      length-decimal-le 2 n (omega arith) (omega arith) (omega arith);
}

-- with short numbers it is short
short_around : (most online protocol : List ℕ) → IsShort 2 most → IsShort 2 online →
    IsShort 2 protocol
    → IsShort 200 (status_around most online protocol)
short_around most online protocol m o p =
    short_less _ 200 _ (leb-true 110 200 refl) (
    short_joined 53 57 _ _ (short_where 53
    (codes "{\"description\":{\"text\":\"craft47\"},\"players\":{\"max\":") refl) (
    short_joined 15 42 _ _
    (short_joined 2 13 _ _ m (short_joined 10 3 _ _ (short_where 10 (codes ",\"online\":") refl)
    (short_joined 2 1 _ _ o (short_where 1 (codes "}") refl))))
    (short_joined 38 4 _ _ (short_where 38
    (codes ",\"version\":{\"name\":\"1.8\",\"protocol\":") refl)
    (short_joined 3 1 _ _ (short_joined 2 1 _ _ p (short_where 1 (codes "}") refl))
    (short_where 1 (codes "}") refl)))))

-- the status is short
pub status_short : (most online : ℕ) → most ≤ 50 → online ≤ 50 →
    IsShort 200 (status_json most online)
status_short most online few fewer =
    search (arith, leb-true, short_around, short_number, status_parts)

-- ---- last words

-- why a client may not play
pub refusal_short : (why : Refusal) → IsShort 200 (chat_json (refusal_text why))
unfolding chat_json serde_json_on_literals
refusal_short Version = short_where 200 (chat_json (refusal_text Version)) refl
refusal_short Name = short_where 200 (chat_json (refusal_text Name)) refl
refusal_short Taken = short_where 200 (chat_json (refusal_text Taken)) refl
refusal_short Full = short_where 200 (chat_json (refusal_text Full)) refl

-- why a connection is closed
bad_frame : IsShort 200 (chat_json (codes "Bad frame."))
unfolding chat_json serde_json_on_literals
bad_frame = short_where 200 (chat_json (codes "Bad frame.")) refl

-- likewise
bad_packet : IsShort 200 (chat_json (codes "Bad packet."))
unfolding chat_json serde_json_on_literals
bad_packet = short_where 200 (chat_json (codes "Bad packet.")) refl

-- likewise
bad_number : IsShort 200 (chat_json (codes "Bad number."))
unfolding chat_json serde_json_on_literals
bad_number = short_where 200 (chat_json (codes "Bad number.")) refl

-- likewise
no_answer : IsShort 200 (chat_json (codes "No answer."))
unfolding chat_json serde_json_on_literals
no_answer = short_where 200 (chat_json (codes "No answer.")) refl

abbrev pub AreShortWords : Option (List ℕ) → Type 0
AreShortWords None = Unit {0}
AreShortWords (Some text) = IsShort 200 (chat_json text)

-- whatever the cause
pub farewell_short : (cause : Cause) → AreShortWords (farewell_text cause)
farewell_short (Frame fault) = bad_frame
farewell_short (Packet fault) = bad_packet
farewell_short BadNumber = bad_number
farewell_short Silent = no_answer
farewell_short other = tt

-- ---- windows

-- the title of a chest
pub title_short : IsShort 200 (chat_json (codes "Chest"))
unfolding chat_json serde_json_on_literals
title_short = short_where 200 (chat_json (codes "Chest")) refl

-- ---- identifiers

-- a list by place, of low bytes
by_index_short : (n : ℕ) (f : ℕ → ℕ) → ((k : ℕ) → f k < 128) → IsShort n (by_index n f)
unfolding by_index
by_index_short zero f low = short_where 0 [] refl
by_index_short (suc n) f low =
    let one : IsShort 1 (f n ∷ []) =
    record {
      ascii = all_low (f n ∷ []) (rw (lt-ltb (f n) 128 (low n)) refl);
      few =
          leb-true 1 1 refl;
    } in
    short_less (n + 1) (suc n) _ (omega arith)
    (short_joined n 1 (by_index n f) (f n ∷ []) (by_index_short n f low) one)

-- a hex digit is low
hex_low : (d : ℕ) → d < 16 → hex_digit lower d < 128
hex_low d small = grind (arith, nat_tests)

-- half a byte is below 16
nibble_low : (xs : List ℕ) (k : ℕ) → nibble xs k < 16
nibble_low xs k = grind (arith, nat_tests)

-- so each place of an identifier has a low byte
place_low : (xs : List ℕ) (k : ℕ) → cond (is_hyphen_place k) hyphen
    (hex_digit lower (nibble xs (digit_place k))) < 128
place_low xs k = grind (arith, nat_tests, hex_low, nibble_low)

-- an identifier is short
pub uuid_short : (uuid : ℕ) → IsShort 36 (uuid_text uuid)
unfolding uuid_text
uuid_short uuid = by_index_short 36 _ (place_low (to_be_bytes w128 uuid))

-- ---- names

-- a byte of a name is low
name_byte_low : (b : ℕ) → is_name_byte b ≡ true → b < 128
name_byte_low b t = grind (arith, nat_tests)

-- so a name is ASCII
name_low : (text : List ℕ) → list_all is_name_byte text ≡ true → IsAscii text
name_low [] t i = omega arith
name_low (b ∷ text) t zero = grind (arith, nat_tests, both_true, name_byte_low)
name_low (b ∷ text) t (suc i) = grind (arith, nat_tests, both_true, name_low text)

-- and short
pub name_short : (name : List ℕ) → is_name name ≡ true → IsShort 16 name
unfolding is_name
name_short name t = grind (arith, nat_tests, both_true, leb-true, name_low)
