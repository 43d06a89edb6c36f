use Rattle.std.proofs.Common.{arith, lit<, refl, true}
use Rattle.std.specs.Int.{w32}
use Rattle.std.proofs.lemmas.Int.{to_z_pos}
use Rattle.mc_up.specs.declared.play_up.PlayUp.TheVariants.{Position}
use Rattle.mc_load.specs.Load.{east, south}
use Rattle.mc_load.proofs.Sendable.{can_move, pattern_at}
use Rattle.mc_load.proofs.turn.turn_move.Goals as goal

pub returns-clause-is : goal.returns-clause-is
returns-clause-is c =
    let to_east = east c.args.client c.args.tick in
    let to_south = south c.args.client in
    let x = pattern_at _ to_east c.pattern.result (to_z_pos w32 to_east (omega arith))
    (omega arith) c.pattern.type_inv c.pattern.ensures.zero c.pattern.ensures.stands in
    let y = pattern_at _ 128 c.pattern-2.result refl (lit< tt) c.pattern-2.type_inv
    c.pattern-2.ensures.zero c.pattern-2.ensures.stands in
    let z = pattern_at _ to_south c.pattern-3.result (to_z_pos w32 to_south (omega arith))
    (omega arith) c.pattern-3.type_inv c.pattern-3.ensures.zero c.pattern-3.ensures.stands in
    λ i. Position (x i) (y i) (z i) true

pub returns-clause-can : goal.returns-clause-can
returns-clause-can c = can_move c.pattern.result c.pattern-2.result c.pattern-3.result
    c.pattern.type_inv c.pattern-2.type_inv c.pattern-3.type_inv
