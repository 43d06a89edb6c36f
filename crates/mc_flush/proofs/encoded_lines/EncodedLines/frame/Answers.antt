use Rattle.std.proofs.Common.{◌≡◌, rules, sym, subst, ap, ◌∙◌}
use Rattle.mc_flush.specs.LineFrames.{AreLines, line_bytes}
use Rattle.mc_flush.proofs.LineFrames.{line_at}
use Rattle.mc_flush.proofs.encoded_lines.EncodedLines.frame.Goals as goal

pub returns-then-eq : goal.returns-then-eq
returns-then-eq c = λ are.
    let line = c.in_ok-line.line.now in
    let all : AreLines c.as_slice.result.now =
    subst AreLines (sym (c.as_slice.ensures.value ∙ c.self.view_is)) are in
    let found = c.in_ok-line.ensures.lookup in
    let text : line.text ≡ c.args.text.now = search rules in
    line_at c.as_slice.result.now c.in_ok-at.at line all found.3.0 found.1
    ∙ ap line_bytes text
