use Rattle.std.proofs.Common.{◌∙◌, sym}
use Rattle.mc_flush.proofs.LineFrames.{texts_end, texts_next}
use Rattle.mc_flush.proofs.encoded_line.have_texts.Goals as goal

pub loop-line-preserved : goal.loop-line-preserved
loop-line-preserved c = λ more. c.loop-line.invariant (texts_next c.args.lines.now
    c.loop-line.rest.now c.in-Some.later.now c.loop-line.line-index c.line-item.result
    c.in-Some.text.now c.loop-line-test.true c.line-item.is c.in-Some.ensures.cases.0
    (c.has.ensures c.if-not-has.false) more)

pub returns : goal.returns
returns c = λ empty. c.loop-line.invariant (texts_end c.args.lines.now c.loop-line.rest.now
    c.loop-line.line-index c.loop-line-test.false (sym c.is_empty.ensures ∙ empty))
