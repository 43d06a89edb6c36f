use Rattle.std.proofs.Common.{sym, ◌∙◌}
use Rattle.mc_text.specs.Words.{IsLastWord}
use Rattle.mc_words.proofs.Scripts.{fourth_word}
use Rattle.mc_words.proofs.script_line.words_event.Goals as goal

pub returns-then-is_some : goal.returns-then-is_some
returns-then-is_some c =
    let first = rw c.in-Some.is at c.cut_word.ensures in
    let second = rw c.in-Some-rest.is at c.cut_word-2.ensures in
    fourth_word (λ r. r.now) (IsLastWord c.in-Some-rest.more.now c.cut_word-3.result.0.now)
    c.args.before c.args.line.now c.cut_word.result.0.now c.in-Some.more.now
    c.cut_word-2.result.0.now c.in-Some-rest.more.now c.cut_word-3.result.0.now
    c.cut_word-3.result.1 first second c.cut_word-3.ensures (sym c.is_some.ensures
    ∙ c.if-is_some.true)
