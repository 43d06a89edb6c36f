use Rattle.std.proofs.Common.{◌≡◌, ℕ, ◌-◌, ◌*◌, ◌^◌, ◌<◌, ap, ◌∙◌, arith, rules}
use Rattle.mc_fields.specs.Pattern.{RepresentsTurn}
use Rattle.mc_fields.proofs.Patterns.{top_below, stands_turn, turns_again, turns_only}
use Rattle.mc_fields.proofs.binary32.degrees.Goals as goal

below : (c : goal.After-ilog2-top) → c.ilog2-top.result < 14
below c = top_below _ c.ilog2-top.result 14 c.ilog2-top.ensures.power_le
    (omega (arith, c.from-size.ensures, c.ranges.a.fits))

pub raised-requires-clause-room : goal.raised-requires-clause-room
raised-requires-clause-room c = omega (arith, below c)

pub returns-clause-stands : goal.returns-clause-stands
returns-clause-stands c =
    let few = top_below _ c.ilog2-top.result 14 c.ilog2-top.ensures.power_le
    (omega (arith, c.from-size.ensures, c.ranges.a.fits)) in
    let value : c.raised.result ≡ c.args.a * 45 * 2 ^ (23 - c.ilog2-top.result) =
    c.raised.ensures.value ∙ ap (λ (n : ℕ). n * 45 * 2 ^ (23 - c.ilog2-top.result))
    c.from-size.ensures in
    rw c.from.ensures (stands_turn c.args.a c.ilog2-top.result c.raised.result c.raised.ensures.low
    c.raised.ensures.high few value)

pub returns-then-a-eq0-clause-again : goal.returns-then-a-eq0-clause-again
returns-then-a-eq0-clause-again c = let stands : RepresentsTurn c.args.a 0 = search rules in
    turns_again c.args.a 0 c.ranges.a.fits stands

pub returns-clause-again : goal.returns-clause-again
returns-clause-again c = turns_again c.args.a _ c.ranges.a.fits (returns-clause-stands c)

pub returns-clause-only : goal.returns-clause-only
returns-clause-only c b turns = turns_only c.args.a b _ c.ranges.a.fits (returns-clause-stands c)
    turns
