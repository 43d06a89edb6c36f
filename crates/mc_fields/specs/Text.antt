-- Texts, of the page 'Data types' of wiki.vg for protocol 47: the VarInt of the length in bytes,
-- then the bytes in UTF-8. A field names how many code points its text has at most. The order of
-- the tests is a rule of this project.
use Rattle.std.specs.Prelude.{◌≡◌, ℕ, ◌*◌, ◌^◌, ◌<◌, ◌≤◌, List, ◌++◌, length, take, drop, nat_lt}
use Rattle.std.specs.Prelude.{not, Result, Ok, Err, if◌then◌else◌}
use Rattle.std.specs.Str.{IsUtf8, is_utf8, chars}
use lib.IntN.{ℤ, pos, negsuc}
use Rattle.mc_bytes.specs.declared.fault.Kind.{Kind}
use Rattle.mc_bytes.specs.declared.fault.Kind.TheVariants.{Short, BadText, TooLong, BadLength}
use Rattle.mc_bytes.specs.Reading.{Field, ◌>>=◌, stop_at}
use Rattle.mc_fields.specs.Varint.{SpellsVarint, varint_read, varint_spelling}

-- a text with so many code points at most, and four bytes for each of them at most
pub record FitsText (points : ℕ) (text : List ℕ) : Type 0 where
  pub utf8 : IsUtf8 text
  pub few_bytes : length text ≤ 4 * points
  pub few_points : length (chars text) ≤ points

-- the bytes spell the text
pub record SpellsText (points : ℕ) (text bytes : List ℕ) : Type 0 where
  pub size : List ℕ
  pub sized : SpellsVarint 5 (pos (length text)) size
  pub parts : bytes ≡ size ++ text
  pub fits : FitsText points text

-- what has a spelling: a length fits its VarInt
pub record SpellableText (points : ℕ) (text : List ℕ) : Type 0 where
  pub fits : FitsText points text
  pub sized : length text < 2 ^ 31

-- bytes that are a text of so many code points at most
abbrev pub checked_text : ℕ → List ℕ → Result (List ℕ) Kind
checked_text points bytes =
    if not (is_utf8 bytes) then Err BadText
    else if nat_lt points (length (chars bytes)) then Err TooLong
    else Ok bytes

-- The text of a given length at the front of the bytes after that length. The tests, in order: the
-- length is negative, too long for any text of so many code points, longer than what is left; the
-- bytes are no UTF-8; there are too many code points.
abbrev pub text_front : ℕ → ℤ → List ℕ → Result (List ℕ) Kind
text_front points (negsuc n) bytes = Err BadLength
text_front points (pos len) bytes =
    if nat_lt (4 * points) len then Err TooLong
    else if nat_lt (length bytes) len then Err Short
    else checked_text points (take len bytes)

-- a text and the bytes after it, or a fault where the whole field begins
abbrev pub text_at : List ℕ → List ℕ → Result (List ℕ) Kind → Field (List ℕ)
text_at start bytes (Ok text) = Ok (text, drop (length text) bytes)
text_at start bytes (Err kind) = Err (stop_at kind start)

unfoldable pub text_read : ℕ → List ℕ → Field (List ℕ)
text_read points bytes = do
  size ← varint_read 5 bytes
  text_at bytes size.1 (text_front points size.0 size.1)

unfoldable pub text_spelling : List ℕ → List ℕ
text_spelling text = varint_spelling (pos (length text)) ++ text
