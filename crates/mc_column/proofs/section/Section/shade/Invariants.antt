use Rattle.mc_column.specs.Cells.{paired}
use Rattle.mc_column.proofs.LightFacts.{AreShaded}
use Rattle.mc_column.proofs.section.Section.shade.Given as goal

abbrev pub invariant-loop-y : goal.invariant-loop-y
invariant-loop-y l = AreShaded (paired l.self-inside.bytes.items) l.fn.light l.light l.sky l.y
