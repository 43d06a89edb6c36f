use Rattle.std.proofs.Common.{◌≡◌, replicate}
use Rattle.mc_slots.specs.declared.slot.Slot.TheVariants as slots
use Rattle.mc_flush.proofs.windows.slots_before.Given as goal

-- so many are there
abbrev pub invariant-loop : goal.invariant-loop
invariant-loop l = l.items ≡ replicate l.counter slots.Empty
