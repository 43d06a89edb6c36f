use Rattle.std.proofs.Common.{◌≡◌, ◌+◌, ◌-◌, arith, refl, ◌∙◌}
use Rattle.mc_column.specs.Cells.{paired}
use Rattle.mc_column.proofs.LightFacts.{shaded_none, shaded_more, shaded_all}
use Rattle.mc_column.proofs.section.Section.shade.Goals as goal

pub loop-y-init : goal.loop-y-init
loop-y-init c = shaded_none _ _ _ _ c.layers_of_section-y.ensures c.requires.light_is
    c.requires.sky_is

pub loop-y-preserved : goal.loop-y-preserved
loop-y-preserved c =
    let step : c.loop-y.y ≡ c.loop-y.y - 1 + 1 = omega (arith, c.loop-y-test.true) in
    let value : c.deref.result.now ≡ c.self.inside.bytes.items = c.deref.ensures.value in
    shaded_more _ _ c.loop-y.light c.loop-y.sky c.dim.new.light c.put_row.new.sky
    (paired c.layer.result.now) (c.loop-y.y - 1) c.loop-y.y step c.loop-y.invariant
    (λ t lt. c.layer.ensures.states t lt ∙ rw value refl) c.dim.ensures c.put_row.ensures.len
    c.put_row.ensures.from

pub returns-clause-all : goal.returns-clause-all
returns-clause-all c states i is lit = shaded_all _ _ _ _ _ c.loop-y.invariant c.loop-y-test.false
    states i (c.self.view_is ∙ is) lit
