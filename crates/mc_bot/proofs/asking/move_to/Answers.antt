use Rattle.std.proofs.Common.{rules, true}
use Rattle.mc_up.specs.declared.play_up.PlayUp.TheVariants.{Position}
use Rattle.mc_bot.proofs.Askable.{can_move, pattern_at}
use Rattle.mc_bot.proofs.asking.move_to.Goals as goal

pub returns-clause-is : goal.returns-clause-is
returns-clause-is c =
    let x = pattern_at c.args.x c.pattern.result (search rules) c.pattern.type_inv
    c.pattern.ensures.zero c.pattern.ensures.stands in
    let y = pattern_at c.args.y c.pattern-2.result (search rules) c.pattern-2.type_inv
    c.pattern-2.ensures.zero c.pattern-2.ensures.stands in
    let z = pattern_at c.args.z c.pattern-3.result (search rules) c.pattern-3.type_inv
    c.pattern-3.ensures.zero c.pattern-3.ensures.stands in
    λ i. Position (x i) (y i) (z i) true

pub returns-clause-can : goal.returns-clause-can
returns-clause-can c = can_move c.pattern.result c.pattern-2.result c.pattern-3.result
    c.pattern.type_inv c.pattern-2.type_inv c.pattern-3.type_inv
