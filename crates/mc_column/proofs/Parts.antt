-- Parts of equal size, one after another.
use Rattle.std.proofs.Common.{◌≡◌, ℕ, ◌+◌, ◌*◌, ◌-◌, ◌<◌, ◌≤◌, List, take, drop, get_or, arith}
use Rattle.std.proofs.lemmas.Bool.Decides.{nat_tests}
use Rattle.std.proofs.lemmas.List.{get_or-take, get_or-drop}
use Rattle.mc_column.specs.Sizes.{section_cells, squares, layer_count}
use Rattle.mc_column.specs.SizesLaws.{section-layers}
use Rattle.mc_column.specs.Cells.{paired}
use Rattle.mc_column.proofs.Pairs.{paired-take, paired-drop}

-- the y-th of n parts ends within them
pub part_within : (y n a size total : ℕ) → y < n → size ≡ a → total ≡ n * a →
    y * size + size ≤ total
part_within y n a size total lt is all = grind (arith, nat_tests)

pub section_parts : 2 * section_cells ≡ layer_count * (2 * squares)
section_parts = grind (arith, nat_tests, section-layers)

-- a state of a layer is one of its section
pub layer_state : (bytes : List ℕ) (y size t : ℕ) → size ≡ 2 * squares → t < squares →
    get_or (paired (take (y * size + size - y * size) (drop (y * size) bytes))) t 0 ≡
    get_or (paired bytes) (y * squares + t) 0
layer_state bytes y size t is lt = grind (
  arith,
  paired-take squares (drop (2 * (y * squares)) bytes),
  paired-drop (y * squares) bytes,
  get_or-take squares (drop (y * squares) (paired bytes)) t 0 lt,
  get_or-drop (y * squares) (paired bytes) t 0,
  twice y squares,
)
  where
    twice : (a b : ℕ) → a * (2 * b) ≡ 2 * (a * b)
    twice a b = grind arith
