use Rattle.std.proofs.Common.{◌≡◌, ℕ, ◌+◌, ◌*◌, ◌-◌, ◌<◌, ◌≤◌, arith, true}
use Rattle.mc_column.specs.Sizes.{section_count, section_cells}
use Rattle.mc_column.specs.SizesLaws.{section_cells-is, section_count-is}
use Rattle.mc_column.specs.Cells.{rank}
use Rattle.mc_column.specs.Body.{is_named, block_light_at}
use Rattle.mc_column.proofs.PutFacts.{piece_of_blocks, piece_within}
use Rattle.mc_column.proofs.put.piece.Goals as goal

-- the piece ends within the blocks
within : (mask i r size len : ℕ) → i < section_count → is_named mask i ≡ true →
    r ≡ rank (is_named mask) i → size ≡ 2 * section_cells → len ≡ block_light_at mask →
    r * size + size ≤ len
within mask i r size len lt named is sized all =
    rw (is, sized, all) (piece_within mask i (2 * section_cells) lt named)

small : (r size i : ℕ) → i < section_count → r ≤ i → size ≡ 2 * section_cells →
    r * size + size < 1000000
small r size i lt le sized = rw (sized, section_cells-is) (omega (arith, section_count-is))

pub overflow_mul-from : goal.overflow_mul-from
overflow_mul-from c = omega (
  arith,
  small _ _ _ c.requires.inside c.rank.ensures.most
      c.bytes_of_section-size.ensures,
)

pub overflow_add-result : goal.overflow_add-result
overflow_add-result c = omega (
  arith,
  small _ _ _ c.requires.inside c.rank.ensures.most
      c.bytes_of_section-size.ensures,
)

pub slice_bounds-result-end : goal.slice_bounds-result-end
slice_bounds-result-end c = omega (
  arith,
  within _ _ _ _ _ c.requires.inside c.requires.named
      c.rank.ensures.value c.bytes_of_section-size.ensures c.requires.whole,
)

pub returns-clause-states : goal.returns-clause-states
returns-clause-states c =
    let width : c.rank.result * c.bytes_of_section-size.result + c.bytes_of_section-size.result
    - c.rank.result * c.bytes_of_section-size.result ≡ c.bytes_of_section-size.result =
    omega arith in
    rw (width, c.bytes_of_section-size.ensures, c.rank.ensures.value)
    (piece_of_blocks c.args.blocks.now (rank (is_named c.args.mask) c.args.i) section_cells)
