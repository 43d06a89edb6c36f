use Rattle.std.proofs.Common.{◌≡◌, drop}
use Rattle.mc_flush.specs.LineFrames.{texts_of}
use Rattle.mc_flush.proofs.encoded_line.have_texts.Given as goal

-- where the rest have the texts that are left, all have all
abbrev pub invariant-loop-line : goal.invariant-loop-line
invariant-loop-line l =
    texts_of (drop l.line-index l.lines) ≡ l.rest → texts_of l.lines ≡ l.texts
