use Rattle.std.proofs.Common.{arith}
use Rattle.mc_fields.proofs.Patterns.{top_below, stands_negative, stands_positive}
use Rattle.mc_fields.proofs.binary64.pattern_of.Goals as goal

pub raised-requires-clause-room : goal.raised-requires-clause-room
raised-requires-clause-room c =
    omega (
      arith,
      top_below c.args.size c.ilog2-top.result 32 c.ilog2-top.ensures.power_le
          c.requires.few,
    )

pub returns-then-negative : goal.returns-then-negative
returns-then-negative c =
    rw (c.if-negative.true, c.from-exponent.ensures) (stands_negative c.args.size c.ilog2-top.result
    c.raised.result c.raised.ensures.low c.raised.ensures.high
    (top_below c.args.size c.ilog2-top.result 32 c.ilog2-top.ensures.power_le c.requires.few)
    c.raised.ensures.value)

pub returns-else-negative : goal.returns-else-negative
returns-else-negative c =
    rw (c.if-negative.false, c.from-exponent.ensures) (stands_positive c.args.size
    c.ilog2-top.result c.raised.result c.raised.ensures.low c.raised.ensures.high
    (top_below c.args.size c.ilog2-top.result 32 c.ilog2-top.ensures.power_le c.requires.few)
    c.raised.ensures.value)
