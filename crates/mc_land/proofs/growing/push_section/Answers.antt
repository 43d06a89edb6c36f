use Rattle.std.proofs.Common.{arith, refl}
use Rattle.mc_land.proofs.GrownFacts.{layers_more, section_all, section_layer}
use Rattle.mc_land.proofs.growing.push_section.Goals as goal

pub loop-y-preserved : goal.loop-y-preserved
loop-y-preserved c = layers_more _ c.loop-y.y _ _ c.loop-y.invariant.0 c.loop-y.invariant.1
    (section_layer c.args.terrain.now c.args.place.now c.args.i c.loop-y.y _ _ _ refl
    c.in_ok-push_layer.ensures)

pub returns : goal.returns
returns c = section_all c.args.terrain.now c.args.place.now c.args.i c.loop-y.y _
    (omega (arith, c.loop-y-test.false, c.loop-y.auto.y-end)) c.loop-y.invariant.0
    c.loop-y.invariant.1
