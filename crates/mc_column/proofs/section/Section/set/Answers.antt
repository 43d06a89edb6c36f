use Rattle.std.proofs.Common.{◌≡◌, ◌+◌, ◌*◌, ◌-◌, ◌/◌, ◌%◌, ◌<◌, length, get_or, arith, ap, refl}
use Rattle.std.proofs.Common.{◌∙◌}
use Rattle.mc_column.specs.SizesLaws.{section_cells-is}
use Rattle.mc_column.specs.Cells.{paired}
use Rattle.mc_column.specs.Kept.{block_of}
use Rattle.mc_column.proofs.KeptFacts.{kept_set, kept_counts, block_at_most}
use Rattle.mc_column.proofs.Pairs.{paired-set}
use Rattle.mc_column.proofs.section.Section.set.Goals as goal

pub index_mut-requires : goal.index_mut-requires
index_mut-requires c = omega (
  arith,
  c.self.invariant.sized,
  c.self.inside.bytes.ok,
  section_cells-is,
)

pub index_mut-requires-2 : goal.index_mut-requires-2
index_mut-requires-2 c = omega (
  arith,
  c.self.invariant.sized,
  c.self.inside.bytes.ok,
  section_cells-is,
)

pub overflow_add-self : goal.overflow_add-self
overflow_add-self c =
    let counts = kept_counts _ _ c.args.index c.self.invariant (omega (arith, section_cells-is)) in
    omega (arith, counts.0, section_cells-is, c.block.ensures, block_at_most c.args.state)

pub overflow_sub-self : goal.overflow_sub-self
overflow_sub-self c =
    let counts = kept_counts _ _ c.args.index c.self.invariant (omega (arith, section_cells-is)) in
    let is : c.get-old.result ≡ get_or (paired c.self.inside.bytes.items) c.args.index 0 =
    rw c.self.view_is c.get-old.ensures in
    omega (arith, counts.1, c.block-2.ensures, ap block_of is)

pub invariant_of-self : goal.invariant_of-self
invariant_of-self c =
    let is : c.get-old.result ≡ get_or (paired c.self.inside.bytes.items) c.args.index 0 =
    rw c.self.view_is c.get-old.ensures in
    let count : c.self.inside.filled + c.block.result - c.block-2.result ≡ c.self.inside.filled +
    block_of c.args.state - block_of c.get-old.result = rw (c.block.ensures, c.block-2.ensures)
    refl in
    kept_set _ _ c.args.index c.args.state c.get-old.result _ c.self.invariant
    (omega (arith, section_cells-is)) c.ranges.state.fits is count

pub returns-clause-new : goal.returns-clause-new
returns-clause-new c =
    let inside : 2 * c.args.index + 1 < length c.self.inside.bytes.items =
    omega (arith, c.self.invariant.sized, section_cells-is) in
    let whole : c.args.state % 256 + 256 * (c.args.state / 256) ≡ c.args.state = omega arith in
    rw (← c.self.view_is) (paired-set c.self.inside.bytes.items c.args.index (c.args.state % 256)
    (c.args.state / 256) inside ∙ rw whole refl)
