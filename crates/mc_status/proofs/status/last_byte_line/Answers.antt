use Rattle.std.proofs.Common.{true, false, sym, ◌∙◌}
use Rattle.mc_status.proofs.Texts.{last_line_is}
use Rattle.mc_status.proofs.status.last_byte_line.Goals as goal

pub returns-then-ends_line : goal.returns-then-ends_line
returns-then-ends_line c counted = c.saturating_sub.ensures ∙ last_line_is c.args.text.now
    c.args.count true (sym c.if-ends_line.true ∙ c.ends_line.ensures) counted

pub returns-else-ends_line : goal.returns-else-ends_line
returns-else-ends_line c counted = last_line_is c.args.text.now c.args.count false
    (sym c.if-ends_line.false ∙ c.ends_line.ensures) counted
