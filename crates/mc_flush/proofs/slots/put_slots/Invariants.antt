use Rattle.std.proofs.Common.{◌≡◌, ◌+◌, ◌++◌, drop, map}
use Rattle.mc_slots.specs.Pile.{slot_of}
use Rattle.mc_model.specs.Delta.{slot_packets}
use Rattle.mc_sending.specs.Sending.{play_bytes}
use Rattle.mc_flush.proofs.slots.put_slots.Given as goal

-- what was sent and what is left make all
abbrev pub invariant-loop-i : goal.invariant-loop-i
invariant-loop-i l = l.out.items
    ++ play_bytes (slot_packets l.window (l.first + l.i) (map slot_of (drop l.i l.old))
    (map slot_of (drop l.i l.new)))
    ≡ l.initial.out.items
    ++ play_bytes (slot_packets l.window l.first (map slot_of l.old) (map slot_of l.new))
