use Rattle.std.proofs.Common.{ap, length, arith, ◌∙◌}
use Rattle.std.proofs.lemmas.List.FromFn.{length-map-range_with_len}
use Rattle.mc_column.specs.Sizes.{squares}
use Rattle.mc_column.specs.SizesLaws.{section_count-is}
use Rattle.mc_land.proofs.GrownFacts.{grown_none, grown_all}
use Rattle.mc_land.proofs.growing.grow.Goals as goal

pub with_biomes-requires : goal.with_biomes-requires
with_biomes-requires c = ap length c.in_ok-biomes.ensures ∙ length-map-range_with_len _ 0 squares

pub loop-i-init : goal.loop-i-init
loop-i-init c = grown_none _ _ _ _ c.in_ok-biomes.ensures c.in_ok-column.ensures

pub overflow_cast-i : goal.overflow_cast-i
overflow_cast-i c = omega (
  arith,
  c.loop-i-test.true,
  c.sections_of_column-i-end.ensures,
  section_count-is,
)

pub loop-i-preserved : goal.loop-i-preserved
loop-i-preserved c = c.in_ok-grow_section.ensures c.loop-i.invariant

pub returns : goal.returns
returns c = grown_all _ _ _ c.loop-i.i (omega (
  arith,
  c.loop-i-test.false,
  c.loop-i.auto.i-end,
  c.sections_of_column-i-end.ensures,
)) c.loop-i.invariant

pub grow_section-requires-clause-inside : goal.grow_section-requires-clause-inside
grow_section-requires-clause-inside c = omega (
  arith,
  c.loop-i-test.true,
  c.sections_of_column-i-end.ensures,
  section_count-is,
)
