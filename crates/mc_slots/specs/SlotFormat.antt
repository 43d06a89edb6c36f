-- The format of slots, of the page 'Slot Data' of wiki.vg for protocol 47.
use Rattle.std.specs.Prelude.{ℕ, List, ◌++◌, refl}
use Rattle.mc_bytes.specs.Format.{Format}
use Rattle.mc_slots.specs.declared.slot.Slot.{Slot}
use Rattle.mc_slots.specs.Slot.{FitsSlot, SpellsSlot, slot_read, slot_spelling, slot_most}
use Rattle.mc_slots.specs.SlotLaws.{slot_found, slot_only, slot_fit, slot_spelled, slot_bounded}

-- a slot
abbrev pub slot : {Rest : List ℕ → Type 0} → Format Rest Slot
slot {Rest} = record {
  spells = SpellsSlot;
  read = slot_read;
  fits = FitsSlot;
  spelling = slot_spelling;
  append = λ value out. out ++ slot_spelling value;
  most = slot_most;
  found = slot_found;
  only = slot_only Rest;
  fit = slot_fit;
  spelled = slot_spelled;
  appended = λ value out. refl;
  bounded = slot_bounded;
}
