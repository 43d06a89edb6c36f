use Rattle.std.proofs.Common.{lit<, sym, subst}
use lib.IntN.{negsuc}
use Rattle.mc_slots.specs.declared.slot.Slot.{Slot}
use Rattle.mc_packets.specs.declared.down.Down.TheVariants.{SetSlot}
use Rattle.mc_model.proofs.FitsSlots.{set_slot_clear}
use Rattle.mc_sending.specs.Sending.{IsClear}
use Rattle.mc_flush.proofs.slots.put_cursor.Goals as goal

pub put_made-requires : goal.put_made-requires
put_made-requires c = subst (λ (s : Slot). IsClear (SetSlot (negsuc 0) (negsuc 0) s))
    (sym c.slot.ensures.slot) (set_slot_clear (negsuc 0) (negsuc 0) c.args.pile.now
    (record { sfits = lit< tt }) (record { sfits = lit< tt }) c.requires)
