use Rattle.std.proofs.Common.{◌≡◌, ◌+◌, ◌∷◌, ℕ, List, drop, refl, ap, sym, subst, ◌∙◌}
use Rattle.std.proofs.lemmas.List.{drop_more}
use Rattle.mc_flush.specs.LineFrames.{AreLines, IsLineFrame, framed}
use Rattle.mc_flush.proofs.LineFrames.{all_joined, lines_next}
use Rattle.mc_flush.proofs.encoded_lines.EncodedLines.add_lines.Goals as goal

pub loop-text-preserved : goal.loop-text-preserved
loop-text-preserved c =
    let texts = c.args.texts.now in
    let i = c.loop-text.text-index in
    let h = c.loop-text.invariant in
    let text = c.text-item.result in
    let next : drop i texts ≡ text ∷ drop (i + 1) texts =
    drop_more texts i text c.loop-text-test.true
    ∙ ap (λ (x : List ℕ). x ∷ drop (i + 1) texts) (sym c.text-item.is) in
    let put = c.in_ok-add_line.ensures.ok in
    record {
      lines = lines_next c.loop-text.self c.add_line.new.self text (drop i texts)
          (drop (i + 1) texts) _ next put h.lines;
      frames = λ are. subst AreLines (sym put)
          (all_joined IsLineFrame c.loop-text.self (framed text) (h.frames are) refl);
    }
