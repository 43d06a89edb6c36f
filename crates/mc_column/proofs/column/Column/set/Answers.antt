use Rattle.std.proofs.Common.{◌≡◌, ◌+◌, ◌*◌, ◌/◌, ◌%◌, ◌<◌, [], length, set, arith, sym, refl, ◌∙◌}
use Rattle.std.proofs.lemmas.List.{get_or_read}
use Rattle.mc_column.specs.SizesLaws.{section_count-is}
use Rattle.mc_column.specs.KeptColumn.{nth_section}
use Rattle.mc_column.proofs.ColumnFacts.{kept_state, kept_with}
use Rattle.mc_column.proofs.column.Column.set.Goals as goal

pub index_mut-section-requires : goal.index_mut-section-requires
index_mut-section-requires c = omega (
  arith,
  c.self.invariant.all_there,
  section_count-is,
  c.self.inside.sections.ok,
  c.section_at.ensures,
)

pub returns-clause-old : goal.returns-clause-old
returns-clause-old c =
    let there : c.section_at.result < length c.self.inside.sections.items =
    omega (arith, c.self.invariant.all_there, section_count-is, c.section_at.ensures) in
    let is : c.index_mut-section.result.now ≡ nth_section c.self.inside.sections.items (c.args.y /
    16) = get_or_read _ _ _ there c.index_mut-section.ensures.value [] ∙
    rw c.section_at.ensures refl in
    c.in_ok-old.ensures.old ∙ rw (← c.self.view_is, is, c.index_inside.ensures.value)
    (sym (kept_state _ _ c.args.x c.args.y c.args.z c.self.invariant c.requires.x_inside
    c.requires.z_inside c.ranges.y.fits))

pub returns-clause-new : goal.returns-clause-new
returns-clause-new c =
    let there : c.section_at.result < length c.self.inside.sections.items =
    omega (arith, c.self.invariant.all_there, section_count-is, c.section_at.ensures) in
    let is : c.index_mut-section.result.now ≡ nth_section c.self.inside.sections.items (c.args.y /
    16) = get_or_read _ _ _ there c.index_mut-section.ensures.value [] ∙
    rw c.section_at.ensures refl in
    let new : c.set.new.self ≡ set (nth_section c.self.inside.sections.items (c.args.y / 16))
    (c.args.y % 16 * 256 + c.args.z * 16 + c.args.x) c.args.state = c.in_ok-old.ensures.new ∙
    rw (is, c.index_inside.ensures.value) refl in
    rw (← c.self.view_is, c.section_at.ensures) (kept_with _ _ c.set.new.self c.args.x c.args.y
    c.args.z c.args.state c.self.invariant c.requires.x_inside c.requires.z_inside
    c.ranges.y.fits new)
