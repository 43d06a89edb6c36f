use Rattle.std.proofs.Common.{arith, ◌∙◌}
use Rattle.mc_land.proofs.GrownFacts.{listed_by}
use Rattle.mc_land.proofs.growing.biomes_of.Goals as goal

pub returns : goal.returns
returns c = listed_by _ _ _ (c.loop-top.invariant.0 ∙ omega (
  arith,
  c.loop-top-test.false,
  c.loop-top.auto.top-index-end,
  c.requires.tops.sized,
)) (λ k lt. c.loop-top.invariant.1 k
    (omega (
      arith,
      lt,
      c.loop-top-test.false,
      c.loop-top.auto.top-index-end,
      c.requires.tops.sized,
    )))
