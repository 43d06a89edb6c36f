use Rattle.std.proofs.Common.{◌≡◌, ◌++◌, drop}
use Rattle.std.specs.Prelude.{string_bytes}
use Rattle.mc_replica.specs.Dump.{slot_lines, text_of}
use Rattle.mc_replica.proofs.slot_lines.push_slots.Given as goal

abbrev pub invariant-loop-i : goal.invariant-loop-i
invariant-loop-i l =
    string_bytes l.text ++ text_of (slot_lines l.name l.i (drop l.i l.row))
    ≡ string_bytes l.fn.text ++ text_of (slot_lines l.name 0 l.row)
