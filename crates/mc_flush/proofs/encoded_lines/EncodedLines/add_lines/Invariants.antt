use Rattle.std.proofs.Common.{◌≡◌, List, drop}
use Rattle.mc_flush.specs.declared.encoded_line.EncodedLine.{EncodedLine}
use Rattle.mc_flush.specs.LineFrames.{AreLines, with_texts}
use Rattle.mc_flush.proofs.encoded_lines.EncodedLines.add_lines.Given as goal

-- with what is left it is with all
abbrev pub invariant-loop-text : goal.invariant-loop-text
invariant-loop-text l = record {
  lines : ◌≡◌ {A = List EncodedLine} (with_texts l.self (drop l.text-index l.texts))
      (with_texts l.initial.self l.texts);
  frames : AreLines l.initial.self → AreLines l.self;
}
