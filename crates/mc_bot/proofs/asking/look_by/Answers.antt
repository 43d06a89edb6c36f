use Rattle.std.proofs.Common.{arith, true}
use Rattle.mc_model.proofs.PatternFacts.{degrees_one}
use Rattle.mc_up.specs.declared.play_up.PlayUp.TheVariants.{Look}
use Rattle.mc_bot.proofs.Askable.{can_look}
use Rattle.mc_bot.proofs.asking.look_by.Goals as goal

pub returns-clause-is : goal.returns-clause-is
returns-clause-is c =
    let yaw = degrees_one c.args.yaw c.degrees.result (omega arith) c.degrees.type_inv
    c.degrees.ensures.zero c.degrees.ensures.stands in
    let pitch = degrees_one c.args.pitch c.degrees-2.result (omega arith) c.degrees-2.type_inv
    c.degrees-2.ensures.zero c.degrees-2.ensures.stands in
    λ i. Look (yaw i) (pitch i) true

pub returns-clause-can : goal.returns-clause-can
returns-clause-can c = can_look c.degrees.result c.degrees-2.result c.degrees.type_inv
    c.degrees-2.type_inv
