use Rattle.std.proofs.Common.{◌≡◌, ◌+◌, ◌-◌, arith}
use Rattle.mc_column.proofs.LightFacts.{shaded_none, shaded_air, shaded_all}
use Rattle.mc_column.proofs.sparse.shade_air.Goals as goal

pub loop-y-init : goal.loop-y-init
loop-y-init c = shaded_none _ _ _ _ c.layers_of_section-y.ensures c.requires.light_is
    c.requires.sky_is

pub loop-y-preserved : goal.loop-y-preserved
loop-y-preserved c =
    let step : c.loop-y.y ≡ c.loop-y.y - 1 + 1 = omega (arith, c.loop-y-test.true) in
    shaded_air _ _ c.loop-y.sky c.put_row.new.sky (c.loop-y.y - 1) c.loop-y.y step
    c.loop-y.invariant c.put_row.ensures.len c.put_row.ensures.from

pub returns : goal.returns
returns c states i is lit = shaded_all _ _ _ _ _ c.loop-y.invariant c.loop-y-test.false states i is
    lit
