use Rattle.std.proofs.Common.{◌≡◌, ◌/◌, ◌<◌, [], length, arith, sym, refl, ◌∙◌}
use Rattle.std.proofs.lemmas.List.{get_or_read}
use Rattle.mc_column.specs.SizesLaws.{section_count-is}
use Rattle.mc_column.specs.KeptColumn.{nth_section}
use Rattle.mc_column.proofs.ColumnFacts.{kept_state}
use Rattle.mc_column.proofs.column.Column.get.Goals as goal

pub index-section-requires : goal.index-section-requires
index-section-requires c = omega (
  arith,
  c.self.invariant.all_there,
  section_count-is,
  c.self.inside.sections.ok,
  c.section_at.ensures,
)

pub returns : goal.returns
returns c =
    let there : c.section_at.result < length c.self.inside.sections.items =
    omega (arith, c.self.invariant.all_there, section_count-is, c.section_at.ensures) in
    let is : c.index-section.result.now ≡ nth_section c.self.inside.sections.items (c.args.y / 16) =
    get_or_read _ _ _ there c.index-section.ensures [] ∙ rw c.section_at.ensures refl in
    c.get.ensures ∙ rw (← c.self.view_is, is, c.index_inside.ensures.value)
    (sym (kept_state _ _ c.args.x c.args.y c.args.z c.self.invariant c.requires.x_inside
    c.requires.z_inside c.ranges.y.fits))
