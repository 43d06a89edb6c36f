-- A line of chat fits its packet: its JSON is UTF-8, and of six bytes at most for each of the text.
use Rattle.std.proofs.Common.{◌≡◌, ℕ, zero, suc, ◌+◌, ◌*◌, ◌<◌, ◌≤◌, Bool, true, cond, List, ◌∷◌}
use Rattle.std.proofs.Common.{◌++◌, length, inl, inr, refl, sym, ap, ap₂, ◌∙◌, subst, arith, []}
use Rattle.std.specs.Prelude.{◌/◌, ◌%◌, ◌==◌, ◌&&◌, ◌||◌, nat_lt, slice_index, codes}
use Rattle.std.specs.Char.{digit_char}
use Rattle.std.specs.List.{flat_map, list_all}
use Rattle.std.specs.Str.{IsAscii, IsUtf8}
use Rattle.std.proofs.lemmas.Bool.{cases_lt, cases_eq}
use Rattle.std.proofs.lemmas.Grind.{flat_map-append}
use Rattle.std.proofs.lemmas.List.{length-append, append-nil}
use Rattle.std.proofs.lemmas.Str.{IsUtf8-append, IsUtf8-nil, IsUtf8-encode, IsUtf8-from_ascii}
use Rattle.std.proofs.lemmas.Str.{encode_ascii, encodes-chars, inside_one, length-le-encodes}
use Rattle.std.proofs.lemmas.Bool.Decides.{nat_tests}
use lib.IntN.{pos}
use lib.Utf8.{scalar, scalars, encode, encodes}
use Rattle.serde_json.proofs.OnLiterals.{serde_json_on_literals}
use Rattle.mc_fields.specs.TextFormat.{SpellableText}
use Rattle.mc_packets.specs.declared.down.Down.TheVariants.{Chat}
use Rattle.mc_model.specs.Chat.{line_of}
use Rattle.mc_model.specs.Delta.{chat_packet}
use Rattle.mc_model.specs.Packets.{of_play, for_play}
use Rattle.mc_model.specs.Texts.{chat_json}
use Rattle.mc_model.proofs.Decodes.{IsClear, play_clear}
use Rattle.mc_model.proofs.FitsText.{all_low, both_true, is_low}
use Rattle.mc_model.proofs.FitsSize.{AtMost, few_bytes, fields}

-- a text that a packet of chat can carry
abbrev pub LineFits : List ℕ → Type 0
LineFits text = IsClear for_play (of_play (chat_packet text))

-- ---- what JSON has for the bytes of a text

-- the letter of a byte's short escape, or 0 where it has none
abbrev letter : ℕ → ℕ
letter x =
    cond ((x == 34) || (x == 92)) x
    (cond (x == 8) 98 (cond (x == 12) 102 (cond (x == 10) 110 (cond (x == 13) 114
    (cond (x == 9) 116 0)))))

abbrev by_number : ℕ → List ℕ
by_number x = 92 ∷ 117 ∷ 48 ∷ 48 ∷ digit_char (x / 16) ∷ digit_char (x % 16) ∷ []

-- what stands for a byte
abbrev escaped : ℕ → List ℕ
escaped x =
    cond (nat_lt 0 (letter x)) (92 ∷ letter x ∷ []) (cond (nat_lt x 32) (by_number x) (x ∷ []))

abbrev all_escaped : List ℕ → List ℕ
all_escaped text = flat_map escaped text

-- the JSON of a text is these around it
abbrev json_around : List ℕ → List ℕ
json_around text = codes "{\"text\":\"" ++ ((all_escaped text ++ 34 ∷ []) ++ 125 ∷ [])

chat_parts : (text : List ℕ) → chat_json text ≡ json_around text
unfolding chat_json serde_json_on_literals
chat_parts text = refl

-- ---- how long that is

-- six bytes at most stand for one
escaped_few : (x : ℕ) → AtMost 6 (escaped x)
escaped_few x = grind (arith, nat_tests)

-- so for all of them
all_escaped_few : (text : List ℕ) → AtMost (6 * length text) (all_escaped text)
all_escaped_few [] = omega arith
all_escaped_few (x ∷ text) = grind (arith, nat_tests, escaped_few x, all_escaped_few text)

-- the JSON is not long where the text is not
chat_few : (text : List ℕ) → AtMost (6 * length text + 11) (chat_json text)
chat_few text = grind (arith, nat_tests, all_escaped_few, chat_parts, length-append)

-- ---- that it is UTF-8

-- what stands for a low byte is low
abbrev are_low_below : ℕ → Bool
are_low_below zero = true
are_low_below (suc n) = list_all is_low (escaped n) && are_low_below n

low_below : (n : ℕ) → are_low_below n ≡ true → (x : ℕ) → x < n →
    list_all is_low (escaped x) ≡ true
low_below zero t x less = absurd (omega (arith, less))
low_below (suc n) t x less =
    let both = both_true (list_all is_low (escaped n)) (are_low_below n) t in
    elim (cases_eq x n) [
      | inl same ↦ rw same both.0
      | inr other ↦ low_below n both.1 x (omega (arith, less, other))
    ]

escaped_low : (x : ℕ) → x < 128 → IsAscii (escaped x)
escaped_low x less = all_low (escaped x) (low_below 128 refl x less)

-- a high byte stands for itself
escaped_high : (x : ℕ) → 128 ≤ x → escaped x ≡ x ∷ []
escaped_high x high = grind (arith, nat_tests)

-- and so do all of them
all_high : (xs : List ℕ) → ((i : ℕ) → i < length xs → 128 ≤ slice_index xs i) →
    all_escaped xs ≡ xs
all_high [] high = refl
all_high (x ∷ xs) high =
    ap₂ (λ (a b : List ℕ). a ++ b) (escaped_high x (high 0 (omega arith)))
    (all_high xs (λ i less. high (suc i) (omega (arith, less))))

-- a character's bytes are one low byte, or all high
character_utf8 : (c : ℕ) → scalar c ≡ true → IsUtf8 (all_escaped (encode c))
character_utf8 c is = elim (cases_lt c 128) [
  | inl low ↦ subst IsUtf8 (sym (ap all_escaped (encode_ascii c low) ∙ append-nil (escaped c)))
      (IsUtf8-from_ascii (escaped c) (escaped_low c low))
  | inr not_low ↦
      let high : (i : ℕ) → i < length (encode c) → 128 ≤ slice_index (encode c) i =
      (λ i less. elim (cases_lt (slice_index (encode c) i) 128) [
        | inl low ↦ absurd (let is = inside_one c [] (encode c) i
            (sym (append-nil (encode c))) less low in
            omega (arith, is, low, not_low))
        | inr high ↦ high
      ]) in
      subst IsUtf8 (sym (all_high (encode c) high)) (IsUtf8-encode c is)
]

-- so those of all characters are UTF-8
characters_utf8 : (cs : List ℕ) → scalars cs ≡ true → IsUtf8 (all_escaped (encodes cs))
characters_utf8 [] are = IsUtf8-nil
characters_utf8 (c ∷ cs) are =
    let both = both_true (scalar c) (scalars cs) are in
    subst IsUtf8 (sym (flat_map-append escaped (encode c) (encodes cs)))
    (IsUtf8-append (all_escaped (encode c)) (all_escaped (encodes cs))
    (character_utf8 c both.0) (characters_utf8 cs both.1))

-- a constant text that is ASCII
constant_utf8 : (text : List ℕ) → list_all is_low text ≡ true → IsUtf8 text
constant_utf8 text low = IsUtf8-from_ascii text (all_low text low)

-- and so is the JSON of a text that is
chat_utf8 : (text : List ℕ) → IsUtf8 text → IsUtf8 (chat_json text)
chat_utf8 text utf8 =
    let inside : IsUtf8 (all_escaped text) =
    subst (λ (bytes : List ℕ). IsUtf8 (all_escaped bytes)) utf8.1.1
    (characters_utf8 utf8.0 utf8.1.0) in
    subst IsUtf8 (sym (chat_parts text))
    (IsUtf8-append (codes "{\"text\":\"") ((all_escaped text ++ 34 ∷ []) ++ 125 ∷ [])
    (constant_utf8 (codes "{\"text\":\"") refl)
    (IsUtf8-append (all_escaped text ++ 34 ∷ []) (125 ∷ [])
    (IsUtf8-append (all_escaped text) (34 ∷ []) inside (constant_utf8 (34 ∷ []) refl))
    (constant_utf8 (125 ∷ []) refl)))

-- ---- its packet

-- UTF-8 of not too many bytes has a spelling
pub utf8_fits : (text : List ℕ) → IsUtf8 text → AtMost 2813 text → SpellableText 32767 text
utf8_fits text utf8 few = grind (arith, nat_tests, encodes-chars, few_bytes, length-le-encodes)

-- so has the packet of such a text
text_clear : (text : List ℕ) → IsUtf8 text → AtMost 2813 text → LineFits text
text_clear text utf8 few =
    let fits = utf8_fits text utf8 few in
    play_clear (Chat text (pos 0)) (search (fields, fits)) (omega (arith, few))

-- what a player of this name says is UTF-8
spoken_utf8 : (name text : List ℕ) → IsUtf8 name → IsUtf8 text →
    IsUtf8 (codes "<" ++ (name ++ (codes "> " ++ text)))
spoken_utf8 name text named said =
    IsUtf8-append (codes "<") (name ++ (codes "> " ++ text)) (constant_utf8 (codes "<") refl)
    (IsUtf8-append name (codes "> " ++ text) named
    (IsUtf8-append (codes "> ") text (constant_utf8 (codes "> ") refl) said))

-- and its line fits
pub line_clear : (name text : List ℕ) → IsUtf8 name → IsUtf8 text → length name ≤ 64 →
    length text ≤ 400 → LineFits (line_of name text)
line_clear name text named said short few =
    let all : List ℕ = codes "<" ++ (name ++ (codes "> " ++ text)) in
    let size = length-append name (codes "> " ++ text) in
    let json = chat_few all in
    text_clear (chat_json all) (chat_utf8 all (spoken_utf8 name text named said))
    (omega (arith, short, few, size, json))
