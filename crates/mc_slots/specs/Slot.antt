-- Slots on the wire, of the page 'Slot Data' of wiki.vg for protocol 47.
use Rattle.std.specs.Prelude.{◌≡◌, ℕ, ◌+◌, ◌==◌, List, ◌++◌, length, Option, Some, None, Ok}
use Rattle.std.specs.Prelude.{FitsSigned, ◌≤ℤ◌, if◌then◌else◌}
use Rattle.std.specs.Int.{w8, w16}
use lib.IntN.{ℤ, pos, negsuc}
use Rattle.mc_bytes.specs.Reading.{Field, ◌>>=◌}
use Rattle.mc_bytes.specs.NumberBytes.{number_read, number_spelling}
use Rattle.mc_bytes.specs.CombineBytes.{Sequence, sequence_read, view_read}
use Rattle.mc_bytes.specs.OptionalBytes.{when_spells, when_read, when_spelling}
use Rattle.mc_bytes.specs.MakingBytes.{SpellsMade}
use Rattle.mc_bytes.specs.Naturals.{is_natural}
use Rattle.mc_fields.specs.IntegerBytes.{signed_spells, signed_read, signed_spelling}
use Rattle.mc_nbt.specs.Nbt.{Named, IsNbt, nbt_spelling, SpellsNbt}
use Rattle.mc_nbt.specs.NbtReading.{nbt_at}
use Rattle.mc_slots.specs.declared.slot.Stack.{Stack}
use Rattle.mc_slots.specs.declared.slot.Slot.{Slot}
use Rattle.mc_slots.specs.declared.slot.Slot.TheVariants.{Empty, Full}

-- ---- the tag of a stack: the byte 00 where there is none, or else a named compound

abbrev pub SpellsTag : Option Named → List ℕ → Type 0
SpellsTag None bytes = bytes ≡ number_spelling w8 0
SpellsTag (Some tag) bytes = SpellsNbt tag bytes

abbrev pub FitsTag : Option Named → Type 0
FitsTag None = Unit {0}
FitsTag (Some tag) = IsNbt tag

abbrev pub tag_spelling : Option Named → List ℕ
tag_spelling None = number_spelling w8 0
tag_spelling (Some tag) = nbt_spelling tag

-- how many bytes a spelling of a tag has at most
abbrev pub tag_most : Option Named → ℕ
tag_most None = 1
tag_most (Some tag) = length (nbt_spelling tag)

abbrev pub compound_read : List ℕ → Field (Option Named)
compound_read bytes = do
  tag ← nbt_at bytes
  Ok (Some tag.0, tag.1)

-- the first byte says which; a byte that is neither 00 nor that of a compound is the compound's
-- fault
abbrev pub tag_read : List ℕ → Field (Option Named)
tag_read bytes = do
  first ← number_read w8 bytes
  if first.0 == 0 then Ok (None, first.1) else compound_read bytes

-- ---- the slot

-- an id, and after one that is not negative a count, a damage and a tag; a negative id is that of
-- the empty slot
abbrev pub Parts : Type 0
Parts = ℤ × Option (ℤ × (ℤ × Option Named))

-- the slot of an id and what follows it
abbrev pub make : Parts → Slot
make (id, None) = Empty
make (id, Some (count, (damage, tag))) = Full (record {
  id = id;
  count = count;
  damage = damage;
  tag = tag;
})

-- the id and what follows it, as they are written: -1 for the empty slot
abbrev pub pick : Slot → Parts
pick Empty = (negsuc 0, None)
pick (Full stack) = (stack.id, Some (stack.count, (stack.damage, stack.tag)))

-- the id of a stack is 0 or more
abbrev pub HasId : Slot → Type 0
HasId Empty = Unit {0}
HasId (Full stack) = pos 0 ≤ℤ stack.id

-- the numbers of a stack are of their types, and its tag has a spelling
pub record IsStack (stack : Stack) : Type 0 where
  pub id : FitsSigned w16 stack.id
  pub count : FitsSigned w8 stack.count
  pub damage : FitsSigned w16 stack.damage
  pub tag : FitsTag stack.tag

abbrev pub IsTyped : Slot → Type 0
IsTyped Empty = Unit {0}
IsTyped (Full stack) = IsStack stack

-- what has a spelling
abbrev pub FitsSlot : Slot → Type 0
FitsSlot slot = HasId slot × IsTyped slot

-- ---- the bytes of a slot

-- a count, a damage and a tag, one after another
abbrev pub SpellsCounted : ℤ × (ℤ × Option Named) → List ℕ → Type 0
SpellsCounted = Sequence (signed_spells w8) (λ _. Sequence (signed_spells w16) (λ _. SpellsTag))

abbrev pub counted_read : List ℕ → Field (ℤ × (ℤ × Option Named))
counted_read =
    sequence_read (signed_read w8) (λ _. sequence_read (signed_read w16) (λ _. tag_read))

abbrev pub counted_spelling : ℤ × (ℤ × Option Named) → List ℕ
counted_spelling v =
    signed_spelling w8 v.0 ++ (signed_spelling w16 v.1.0 ++ tag_spelling v.1.1)

-- the id, and these after one that is not negative
abbrev pub SpellsParts : Parts → List ℕ → Type 0
SpellsParts = Sequence (signed_spells w16) (λ id. when_spells (is_natural id) SpellsCounted)

abbrev pub parts_read : List ℕ → Field Parts
parts_read = sequence_read (signed_read w16) (λ id. when_read (is_natural id) counted_read)

abbrev pub parts_spelling : Parts → List ℕ
parts_spelling v = signed_spelling w16 v.0 ++ when_spelling counted_spelling v.1

-- the parts, seen as the slot that they make
unfoldable pub SpellsSlot : Slot → List ℕ → Type 0
SpellsSlot = SpellsMade SpellsParts make

unfoldable pub slot_read : List ℕ → Field Slot
slot_read = view_read parts_read make

-- the one that is written
unfoldable pub slot_spelling : Slot → List ℕ
slot_spelling slot = parts_spelling (pick slot)

-- how many bytes a spelling of a slot has at most
abbrev pub slot_most : Slot → ℕ
slot_most Empty = 2
slot_most (Full stack) = 5 + tag_most stack.tag
