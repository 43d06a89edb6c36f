use Rattle.std.proofs.Common.{◌∙◌, ap}
use Rattle.std.proofs.lemmas.Result.{err_from_is_err_and}
use Rattle.mc_text.specs.Words.{words_of}
use Rattle.mc_words.specs.Script.{words_event, some_event}
use Rattle.mc_words.proofs.Scripts.{line_no_text, line_words, words_fail}
use Rattle.mc_words.proofs.script_line.line_event.Goals as goal

pub returns-then-not-is_text : goal.returns-then-not-is_text
returns-then-not-is_text c = line_no_text c.args.len c.args.size c.args.before c.args.line.now
    c.goes_past.result c.is_skipped.result c.is_text.result c.goes_past.ensures c.if-goes_past.false
    c.is_skipped.ensures c.if-is_skipped.false c.is_text.ensures c.if-not-is_text.true

pub returns-in_err-words_event : goal.returns-in_err-words_event
returns-in_err-words_event c =
    let p = err_from_is_err_and c.from_residual.result c.from_residual.ensures.1 in
    rw (p.1, p.2) (words_fail (words_event c.args.before (words_of c.args.line.now))
    _ c.in_err-words_event.field-0.0 (line_words c.args.len c.args.size c.args.before
    c.args.line.now c.goes_past.result c.is_skipped.result c.is_text.result c.goes_past.ensures
    c.if-goes_past.false c.is_skipped.ensures c.if-is_skipped.false c.is_text.ensures
    c.if-not-is_text.false) c.in_err-words_event.ensures)

pub returns : goal.returns
returns c =
    line_words c.args.len c.args.size c.args.before c.args.line.now c.goes_past.result
    c.is_skipped.result c.is_text.result c.goes_past.ensures c.if-goes_past.false
    c.is_skipped.ensures c.if-is_skipped.false c.is_text.ensures c.if-not-is_text.false
    ∙ ap some_event c.in_ok-words_event.ensures
