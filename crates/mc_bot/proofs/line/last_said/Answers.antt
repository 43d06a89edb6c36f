use Rattle.std.proofs.Common.{sym, ◌∙◌}
use Rattle.mc_text.specs.Words.{IsLastWord}
use Rattle.mc_bot.proofs.Scripts.{sixth_word}
use Rattle.mc_bot.proofs.line.last_said.Goals as goal

pub returns-then-is_some : goal.returns-then-is_some
returns-then-is_some c =
    sixth_word (λ r. r.now) (IsLastWord c.args.more.now c.cut_word.result.0.now)
    c.args.verb.now c.args.a.now c.args.b.now c.args.c.now c.args.more.now c.cut_word.result.0.now
    c.cut_word.result.1 c.cut_word.ensures (sym c.is_some.ensures ∙ c.if-is_some.true)
