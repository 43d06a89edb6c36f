use Rattle.std.proofs.Common.{◌≡◌, ℕ, ◌+◌, ◌*◌, ◌<◌, length, get_or}
use Rattle.mc_column.specs.Sizes.{section_cells, squares}
use Rattle.mc_land.specs.Land.{terrain_at}
use Rattle.mc_land.proofs.growing.push_section.Given as goal

-- the layers below y
abbrev pub invariant-loop-y : goal.invariant-loop-y
invariant-loop-y l = (length l.states.items ≡ l.y * squares) × ((k : ℕ) →
    k < length l.states.items → get_or l.states.items k 0 ≡ terrain_at l.terrain (
      l.place,
      l.i * section_cells + k,
    ))
