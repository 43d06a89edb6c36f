use Rattle.std.proofs.Common.{arith, rules}
use Rattle.mc_fields.proofs.Patterns.{vast_above, vast_below, small_below}
use Rattle.mc_fields.proofs.binary32.angle.Goals as goal

pub returns-then-exponent-ge158-clause-none : goal.returns-then-exponent-ge158-clause-none
returns-then-exponent-ge158-clause-none c =
    (λ e. vast_above c.args.pattern c.if-exponent-ge158.true, λ vast. cc)

pub returns-clause-none : goal.returns-clause-none
returns-clause-none c =
    (λ e. absurd cc, λ vast. absurd (vast_below c.args.pattern c.if-exponent-ge158.false vast))

pub returns-clause-some : goal.returns-clause-some
returns-clause-some c = record {
  ends = omega (arith, c.if-exponent-ge158.false);
  small = small_below c.args.pattern c.if-exponent-ge158.false;
  parts = search rules;
}
