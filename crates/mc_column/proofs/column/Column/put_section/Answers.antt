use Rattle.std.proofs.Common.{arith}
use Rattle.mc_column.specs.SizesLaws.{section_count-is}
use Rattle.mc_column.proofs.ColumnFacts.{kept_put_section}
use Rattle.mc_column.proofs.column.Column.put_section.Goals as goal

pub index_mut-requires : goal.index_mut-requires
index_mut-requires c = omega (
  arith,
  c.self.invariant.all_there,
  section_count-is,
  c.self.inside.sections.ok,
  c.from.ensures,
  c.requires.inside,
)

pub returns-clause-ok : goal.returns-clause-ok
returns-clause-ok c =
    rw (c.from.ensures, c.in_ok-section.ensures, ← c.self.view_is)
    (kept_put_section c.self.inside.sections.items c.self.inside.biomes.items c.args.states.now
    c.args.i c.self.invariant (omega (arith, section_count-is, c.requires.inside))
    c.requires.sized)
