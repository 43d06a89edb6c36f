use Rattle.std.proofs.Common.{rules, arith}
use Rattle.mc_column.specs.SizesLaws.{squares-is}
use Rattle.mc_land.proofs.GrownFacts.{flat_reach, hills_reach, isle_reach}
use Rattle.mc_land.proofs.growing.top_at.Goals as goal

pub block_at-requires-in-Hills-clause-inside : goal.block_at-requires-in-Hills-clause-inside
block_at-requires-in-Hills-clause-inside c = omega (arith, c.requires.inside, squares-is)

pub returns-in-Flat-clause-reach : goal.returns-in-Flat-clause-reach
returns-in-Flat-clause-reach c y =
    rw c.in-Flat.is (flat_reach c.args.place.now c.args.i y c.requires.inside)

pub returns-in-Hills-clause-reach : goal.returns-in-Hills-clause-reach
returns-in-Hills-clause-reach c y = rw c.in-Hills.is (hills_reach c.in-Hills.seed c.args.place.now
    c.args.i y _ c.requires.inside (search rules))

pub returns-in-Isle-clause-reach : goal.returns-in-Isle-clause-reach
returns-in-Isle-clause-reach c y =
    rw c.in-Isle.is (isle_reach c.args.place.now c.args.i y _ c.requires.inside c.isle_top.ensures)
