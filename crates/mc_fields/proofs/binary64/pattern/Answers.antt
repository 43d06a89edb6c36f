use Rattle.std.proofs.Common.{rules}
use Rattle.mc_fields.specs.Pattern.{Represents}
use Rattle.mc_fields.proofs.Patterns.{fixes_again}
use Rattle.mc_fields.proofs.binary64.pattern.Goals as goal

pub returns-then-n-eq0-clause-again : goal.returns-then-n-eq0-clause-again
returns-then-n-eq0-clause-again c = let stands : Represents c.args.n 0 = search rules in
    fixes_again c.args.n 0 c.ranges.n stands

pub returns-clause-again : goal.returns-clause-again
returns-clause-again c = let stands : Represents c.args.n c.pattern_of.result = search rules in
    fixes_again c.args.n c.pattern_of.result c.ranges.n stands
