use Rattle.std.proofs.Common.{◌≡◌, ◌++◌, drop}
use Rattle.mc_sending.specs.Sending.{play_bytes}
use Rattle.mc_flush.specs.Seeing.{line_packets}
use Rattle.mc_flush.proofs.encoded_lines.EncodedLines.put_lines.Given as goal

-- what was sent and what is left make all
abbrev pub invariant-loop-i : goal.invariant-loop-i
invariant-loop-i l =
    l.out.items ++ play_bytes (line_packets (drop l.i l.texts))
    ≡ l.initial.out.items ++ play_bytes (line_packets l.texts)
