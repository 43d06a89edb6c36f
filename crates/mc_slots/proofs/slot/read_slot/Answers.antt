use Rattle.mc_bytes.specs.Format.{Anything}
use Rattle.mc_bytes.specs.PlacedLaws.{PlacedGives-found, PlacedGives-only}
use Rattle.mc_bytes.specs.PlacedOne.{placed_one}
use Rattle.mc_slots.specs.Slot.{SpellsSlot, slot_read}
use Rattle.mc_slots.specs.SlotLaws.{slot_found, slot_only}
use Rattle.mc_slots.proofs.slot.read_slot.Goals as goal

pub returns-clause-found : goal.returns-clause-found
returns-clause-found c = PlacedGives-found (λ read. read) SpellsSlot slot_read slot_found
    c.args.bytes.now c.args.at c.slot_at.result (λ i. (c.type_inv.bytes i).fits) c.requires
    c.slot_at.ensures.gives

pub returns-clause-only : goal.returns-clause-only
returns-clause-only c slot end s = PlacedGives-only (λ read. read) SpellsSlot slot_read
    (slot_only Anything) c.args.bytes.now c.args.at c.slot_at.result slot end
    c.slot_at.ensures.gives s

pub returns-clause-one : goal.returns-clause-one
returns-clause-one c a b m n s t = placed_one SpellsSlot slot_read (slot_only Anything)
    c.args.bytes.now c.args.at a b m n s t
