use Rattle.std.proofs.Common.{◌≡◌, replicate}
use Rattle.mc_slots.specs.declared.slot.Slot.TheVariants as slots
use Rattle.mc_replica.proofs.slot_row.empties.Given as goal

abbrev pub invariant-loop : goal.invariant-loop
invariant-loop l = l.slots.items ≡ replicate l.counter slots.Empty
