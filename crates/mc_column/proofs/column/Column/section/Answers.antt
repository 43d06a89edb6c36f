use Rattle.std.proofs.Common.{◌≡◌, ℕ, ◌<◌, List, [], length, get_or, arith, sym, ◌∙◌}
use Rattle.std.proofs.lemmas.List.{get_or_read}
use Rattle.mc_column.specs.SizesLaws.{section_count-is}
use Rattle.mc_column.specs.Cells.{ColumnValue, section_of}
use Rattle.mc_column.specs.KeptColumn.{kept_column, IsKeptColumn}
use Rattle.mc_column.proofs.ColumnFacts.{kept_section}
use Rattle.mc_column.proofs.column.Column.section.Goals as goal

pub index-requires : goal.index-requires
index-requires c = omega (
  arith,
  c.self.invariant.all_there,
  section_count-is,
  c.self.inside.sections.ok,
  c.from.ensures,
)

-- the section that was looked up is that of the column
section_is : (sections : List (List ℕ)) (biomes : List ℕ) (column : ColumnValue) (n i : ℕ)
    (section : List ℕ) → kept_column sections biomes ≡ column → IsKeptColumn sections biomes →
    i < 16 → n ≡ i → section ≡ get_or sections n section → section ≡ section_of column.states i
section_is sections biomes column n i section view kept lt is found =
    let there : n < length sections = omega (arith, kept.all_there, section_count-is) in
    get_or_read sections n section there found [] ∙
    rw (← view, is)
    (sym (kept_section sections biomes i kept (omega (arith, section_count-is))))

pub returns-clause-none : goal.returns-clause-none
returns-clause-none c =
    let is = section_is _ _ c.args.self.now _ c.args.i c.index.result.now c.self.view_is
    c.self.invariant c.requires c.from.ensures c.index.ensures in
    rw (← is) c.section.ensures.none

pub returns-clause-some : goal.returns-clause-some
returns-clause-some c =
    let is = section_is _ _ c.args.self.now _ c.args.i c.index.result.now c.self.view_is
    c.self.invariant c.requires c.from.ensures c.index.ensures in
    rw (← is) c.section.ensures.some
