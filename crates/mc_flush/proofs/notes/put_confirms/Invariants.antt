use Rattle.std.proofs.Common.{◌≡◌, ◌++◌, drop, map}
use Rattle.mc_model.specs.Notes.{confirm_packet}
use Rattle.mc_sending.specs.Sending.{play_bytes}
use Rattle.mc_flush.proofs.notes.put_confirms.Given as goal

-- what was sent and what is left make all
abbrev pub invariant-loop-answered : goal.invariant-loop-answered
invariant-loop-answered l = l.out.items
    ++ play_bytes (map confirm_packet (drop l.answered-index l.confirms))
    ≡ l.initial.out.items ++ play_bytes (map confirm_packet l.confirms)
