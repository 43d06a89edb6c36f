use Rattle.std.proofs.Common.{arith}
use Rattle.mc_column.specs.SizesLaws.{cells-is}
use Rattle.mc_land.proofs.TouchedFacts.{few_changes}
use Rattle.mc_land.proofs.ready.Ready.edits.Goals as goal

pub returns-clause-is : goal.returns-clause-is
returns-clause-is c = rw (← c.self.view_is) c.self.invariant.counted

pub returns-clause-few : goal.returns-clause-few
returns-clause-few c = omega (
  arith,
  c.self.invariant.counted,
  few_changes c.self.inside.terrain
      c.self.inside.place c.self.inside.column.states,
  cells-is,
)
