-- Laws of slots: what the parts make and what is picked for a slot, and that a slot is read exactly
-- where it is spelled.
use Rattle.std.specs.Prelude.{◌≡◌, ℕ, ◌^◌, ◌<◌, true, List, ◌++◌, Option, Some, None, Ok, refl}
use Rattle.std.specs.Prelude.{FitsSigned, ◌≤ℤ◌}
use Rattle.std.specs.Int.{w8, w16, cast_unsigned}
use Rattle.std.proofs.Common.{sym, arith, rules}
use Rattle.std.proofs.lemmas.Int.{ints}
use lib.IntN.{ℤ, pos, negsuc}
use Rattle.mc_bytes.specs.Format.{IsFound, IsOnly, IsBounded, Anything}
use Rattle.mc_bytes.specs.OptionalBytes.{when_fits}
use Rattle.mc_bytes.specs.MakingLaws.{IsMaking, IsMost, made_found, made_only, made_fit}
use Rattle.mc_bytes.specs.MakingLaws.{made_bounded}
use Rattle.mc_bytes.specs.Naturals.{is_natural}
use Rattle.mc_bytes.specs.SignedLaws.{signed_fits}
use Rattle.mc_nbt.specs.Nbt.{Named}
use Rattle.mc_slots.specs.declared.slot.Slot.{Slot}
use Rattle.mc_slots.specs.declared.slot.Slot.TheVariants.{Empty, Full}
use Rattle.mc_slots.specs.Slot.{FitsTag, Parts, make, pick, FitsSlot, SpellsParts, parts_read}
use Rattle.mc_slots.specs.Slot.{SpellsSlot, slot_read, slot_spelling, slot_most}
use Rattle.mc_slots.specs.SlotParts.{parts}

-- ---- what the parts make

natural : (id : ℤ) → pos 0 ≤ℤ id → is_natural id ≡ true
natural (pos n) le = refl
natural (negsuc n) le = absurd (omega (arith, ints))

made : (v : Parts) → (parts {Rest = Anything}).fits v → FitsSlot (make v)
made (pos n, None) fits = absurd fits.1
made (pos n, Some (count, (damage, tag))) fits = (
  omega (arith, ints),
  record {
    id = fits.0.0;
    count = fits.1.0.0;
    damage = fits.1.1.0.0;
    tag = fits.1.1.1;
  },
)
made (negsuc n, None) fits = (tt, tt)
made (negsuc n, Some more) fits = absurd fits.1

picked : (slot : Slot) → FitsSlot slot → (parts {Rest = Anything}).fits (pick slot)
picked Empty fits = (signed_fits w16 (negsuc 0) (search rules), tt)
picked (Full stack) fits =
    let more : when_fits true (λ (v : ℤ × (ℤ × Option Named)). (FitsSigned w8 v.0 ×
    (cast_unsigned w8 v.0 < 2 ^ 8)) ×
    ((FitsSigned w16 v.1.0 × (cast_unsigned w16 v.1.0 < 2 ^ 16)) × FitsTag v.1.1))
    (Some (stack.count, (stack.damage, stack.tag))) = (
      signed_fits w8 stack.count fits.1.count,
      (
        signed_fits w16 stack.damage fits.1.damage,
        fits.1.tag,
      ),
    ) in
    (signed_fits w16 stack.id fits.1.id, rw (natural stack.id fits.0) more)

same : (slot : Slot) → FitsSlot slot → make (pick slot) ≡ slot
same Empty fits = refl
same (Full stack) fits = refl

pub making : IsMaking (parts {Rest = Anything}).fits FitsSlot make pick
making = record { made = made; picked = picked; same = same }

-- ---- the slot

pub slot_found : IsFound SpellsSlot slot_read
unfolding SpellsSlot slot_read
slot_found = made_found SpellsParts parts_read make (parts {Rest = Anything}).found

pub slot_only : (Rest : List ℕ → Type 0) → IsOnly Rest SpellsSlot slot_read
unfolding SpellsSlot slot_read
slot_only Rest value front rest ends s = made_only Anything SpellsParts parts_read make
    (parts {Rest = Anything}).only value front rest tt s

pub slot_fit : (value : Slot) (bytes : List ℕ) → SpellsSlot value bytes → FitsSlot value
unfolding SpellsSlot
slot_fit = made_fit SpellsParts (parts {Rest = Anything}).fits FitsSlot make making.made
    (parts {Rest = Anything}).fit

pub slot_spelled : (value : Slot) → FitsSlot value → SpellsSlot value (slot_spelling value)
unfolding SpellsSlot slot_spelling
slot_spelled value fits = record {
  source = pick value;
  makes = sym (making.same value fits);
  spelled = (parts {Rest = Anything}).spelled (pick value) (making.picked value fits);
}

is_most : IsMost (parts {Rest = Anything}).fits make (parts {Rest = Anything}).most slot_most
is_most (id, None) fits = omega arith
is_most (id, Some (count, (damage, tag))) fits = omega arith

pub slot_bounded : IsBounded SpellsSlot slot_most
unfolding SpellsSlot
slot_bounded = made_bounded SpellsParts (parts {Rest = Anything}).fits make
    (parts {Rest = Anything}).most slot_most is_most (parts {Rest = Anything}).fit
    (parts {Rest = Anything}).bounded

-- what was written as a slot is read again, whatever follows
pub slot_again : (value : Slot) → FitsSlot value → (rest : List ℕ) →
    slot_read (slot_spelling value ++ rest) ≡ Ok (value, rest)
slot_again value fits rest = slot_only Anything value (slot_spelling value) rest tt
    (slot_spelled value fits)

-- writing the parts appends the slot's spelling
pub slot_appended : (value : Slot) (out : List ℕ) →
    (parts {Rest = Anything}).append (pick value) out ≡ out ++ slot_spelling value
unfolding slot_spelling
slot_appended value = (parts {Rest = Anything}).appended (pick value)
