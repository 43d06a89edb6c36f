-- The metadata of entities, of the page 'Entities' of wiki.vg for protocol 47: entries until the
-- byte 7F. An entry's byte has its type in the top 3 bits and its index in the low 5. So type 3
-- with index 31 has no spelling: its byte is that of the end.
use Rattle.std.specs.Prelude.{◌≡◌, ℕ, ◌+◌, ◌*◌, ◌/◌, ◌%◌, ◌<◌, ◌==◌, Bool, true, false, List, []}
use Rattle.std.specs.Prelude.{length, Option, Ok, refl}
use Rattle.std.proofs.Common.{sym, ap, ◌∙◌, arith, eqb-true, lit<}
use Rattle.std.proofs.lemmas.Bool.{eqb-false}
use lib.IntN.{ℤ, pos}
use Rattle.mc_bytes.specs.Reading.{Field, IsBytes}
use Rattle.mc_bytes.specs.Format.{Format, Anything}
use Rattle.mc_bytes.specs.Combine.{IsView, via}
use Rattle.mc_bytes.specs.Variant.{choose, variant}
use Rattle.mc_bytes.specs.Many.{times}
use Rattle.mc_bytes.specs.Until.{IsHead, headed_read, headed_shorter, until}
use Rattle.mc_fields.specs.Integers.{byte, short, int, float}
use Rattle.mc_slots.specs.declared.slot.Slot.{Slot}
use Rattle.mc_slots.specs.declared.slot.Slot.TheVariants.{Empty}
use Rattle.mc_slots.specs.SlotFormat.{slot}
use Rattle.mc_packets.specs.declared.meta.MetaEntry.{MetaEntry}
use Rattle.mc_packets.specs.declared.meta.MetaValue.{MetaValue}
use Rattle.mc_packets.specs.declared.meta.MetaValue.TheVariants as values
use Rattle.mc_fields.specs.TextFormat.{string}

-- the type of a value
abbrev pub type_of : MetaValue → ℕ
type_of (values.Byte n) = 0
type_of (values.Short n) = 1
type_of (values.Int n) = 2
type_of (values.Float n) = 3
type_of (values.Text text) = 4
type_of (values.Slot item) = 5
type_of (values.Ints xs) = 6
type_of (values.Floats xs) = 7

-- ---- the format of each type

abbrev pub byte_back : MetaValue → ℤ
byte_back (values.Byte n) = n
byte_back other = pos 0

abbrev pub short_back : MetaValue → ℤ
short_back (values.Short n) = n
short_back other = pos 0

abbrev pub int_back : MetaValue → ℤ
int_back (values.Int n) = n
int_back other = pos 0

abbrev pub float_back : MetaValue → ℕ
float_back (values.Float n) = n
float_back other = 0

abbrev pub text_back : MetaValue → List ℕ
text_back (values.Text text) = text
text_back other = []

abbrev pub slot_back : MetaValue → Slot
slot_back (values.Slot item) = item
slot_back other = Empty

abbrev pub ints_back : MetaValue → List ℤ
ints_back (values.Ints xs) = xs
ints_back other = []

abbrev pub floats_back : MetaValue → List ℕ
floats_back (values.Floats xs) = xs
floats_back other = []

abbrev pub bytes : Format Anything MetaValue
bytes = variant byte values.Byte byte_back (λ n. refl)

abbrev pub shorts : Format Anything MetaValue
shorts = variant short values.Short short_back (λ n. refl)

abbrev pub ints : Format Anything MetaValue
ints = variant int values.Int int_back (λ n. refl)

abbrev pub floats : Format Anything MetaValue
floats = variant float values.Float float_back (λ n. refl)

abbrev pub texts : Format Anything MetaValue
texts = variant string values.Text text_back (λ text. refl)

abbrev pub slots : Format Anything MetaValue
slots = variant slot values.Slot slot_back (λ item. refl)

abbrev pub three_ints : Format Anything MetaValue
three_ints = variant (times 3 int) values.Ints ints_back (λ xs. refl)

abbrev pub three_floats : Format Anything MetaValue
three_floats = variant (times 3 float) values.Floats floats_back (λ xs. refl)

-- the format of a type
abbrev pub value_of : ℕ → Format Anything MetaValue
value_of kind =
    choose (kind == 0) bytes (
    choose (kind == 1) shorts (
    choose (kind == 2) ints (
    choose (kind == 3) floats (
    choose (kind == 4) texts (
    choose (kind == 5) slots (
    choose (kind == 6) three_ints
    three_floats))))))

-- ---- entries

abbrev pub head_of : MetaEntry → ℕ
head_of entry = type_of entry.value * 32 + entry.index

pub entry_view : (head : ℕ) (fits : MetaValue → Type 0) →
    IsView {B = MetaEntry} fits (λ entry. entry.index ≡ head % 32)
    (λ value. record { index = head % 32; value = value }) (λ entry. entry.value)
entry_view head fits = record {
  made = λ value f. refl;
  again = λ value f. refl;
  same = λ entry index. rw index refl;
}

-- the entry that a byte announces
abbrev pub entry_of_head : ℕ → Format Anything MetaEntry
entry_of_head head = via (value_of (head / 32)) (λ entry. entry.index ≡ head % 32)
    (λ value. record { index = head % 32; value = value }) (λ entry. entry.value)
    (entry_view head (value_of (head / 32)).fits)

-- a value of a format of one type has that type
abbrev pub IsTyped : (MetaValue → List ℕ → Type 0) → ℕ → Type 0
IsTyped spells kind = (value : MetaValue) (bytes : List ℕ) → spells value bytes → type_of value ≡
    kind

chosen : (kind own : ℕ) (f g : Format Anything MetaValue) → IsTyped f.spells own →
    ((kind == own) ≡ false → IsTyped g.spells kind) → IsTyped (choose (kind == own) f g).spells kind
chosen kind own f g first others value bytes s = step (kind == own) refl s
  where
    step : (t : Bool) → (kind == own) ≡ t → (choose t f g).spells value bytes → type_of value ≡ kind
    step true t s = first value bytes s ∙ sym (eqb-true kind own t)
    step false t s = others t value bytes s

pub typed : (kind : ℕ) → kind < 8 → IsTyped (value_of kind).spells kind
typed kind few =
    chosen kind 0 bytes _ (λ value bytes s. ap type_of s.0) (λ n0.
    chosen kind 1 shorts _ (λ value bytes s. ap type_of s.0) (λ n1.
    chosen kind 2 ints _ (λ value bytes s. ap type_of s.0) (λ n2.
    chosen kind 3 floats _ (λ value bytes s. ap type_of s.0) (λ n3.
    chosen kind 4 texts _ (λ value bytes s. ap type_of s.0) (λ n4.
    chosen kind 5 slots _ (λ value bytes s. ap type_of s.0) (λ n5.
    chosen kind 6 three_ints three_floats (λ value bytes s. ap type_of s.0) (λ n6. λ value bytes s.
    let last : kind ≡ 7 = omega (
      arith,
      few,
      eqb-false kind 0 n0,
      eqb-false kind 1 n1,
      eqb-false kind 2 n2,
      eqb-false kind 3 n3,
      eqb-false kind 4 n4,
      eqb-false kind 5 n5,
      eqb-false kind 6 n6,
    ) in
    ap type_of s.0 ∙ sym last)))))))

pub is_head : IsHead head_of (λ head. (entry_of_head head).spells)
is_head head entry bytes small s =
    let kind : type_of entry.value ≡ head / 32 = typed (head / 32) (omega (arith, small))
    entry.value bytes s.1 in
    let index : entry.index ≡ head % 32 = s.0 in
    omega (arith, kind, index)

pub end_is_byte : 127 < 256
end_is_byte = lit< tt

-- an entity's metadata
abbrev pub metadata : {Rest : List ℕ → Type 0} → Format Rest (List MetaEntry)
metadata {Rest} = until {Rest = Rest} 127 end_is_byte head_of entry_of_head is_head

-- the words of its public calls
abbrev pub SpellsMeta : List MetaEntry → List ℕ → Type 0
SpellsMeta = (metadata {Rest = Anything}).spells

abbrev pub FitsMeta : List MetaEntry → Type 0
FitsMeta = (metadata {Rest = Anything}).fits

abbrev pub meta_read : List ℕ → Field (List MetaEntry)
meta_read = (metadata {Rest = Anything}).read

abbrev pub meta_spelling : List MetaEntry → List ℕ
meta_spelling = (metadata {Rest = Anything}).spelling

abbrev pub entry_read : List ℕ → Field (Option MetaEntry)
entry_read = headed_read 127 (λ head. (entry_of_head head).read)

-- an entry that was read took a byte at least
pub entry_shorter : (bytes : List ℕ) (x : Option MetaEntry × List ℕ) → IsBytes bytes →
    entry_read bytes ≡ Ok x → length x.1 < length bytes
entry_shorter = headed_shorter 127 head_of (λ head. (entry_of_head head).spells)
    (λ head. (entry_of_head head).read) (λ head. (entry_of_head head).found) is_head

-- the top bits of an entry's byte are its type, where its index is below 32
pub head_kind : (entry : MetaEntry) → entry.index ≡ head_of entry % 32 → head_of entry / 32 ≡
    type_of entry.value
head_kind entry index = omega (arith, index)
