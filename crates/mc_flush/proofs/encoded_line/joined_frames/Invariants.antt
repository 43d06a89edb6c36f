use Rattle.std.proofs.Common.{◌≡◌, ◌++◌, drop}
use Rattle.mc_flush.specs.LineFrames.{all_frames}
use Rattle.mc_flush.proofs.encoded_line.joined_frames.Given as goal

-- what is there and what is left make all
abbrev pub invariant-loop-line : goal.invariant-loop-line
invariant-loop-line l =
    l.bytes.items ++ all_frames (drop l.line-index l.lines) ≡ all_frames l.lines
