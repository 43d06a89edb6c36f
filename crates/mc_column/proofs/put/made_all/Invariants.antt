use Rattle.std.proofs.Common.{◌≡◌, ℕ, ◌<◌, [], true, length}
use Rattle.mc_column.specs.Cells.{paired}
use Rattle.mc_column.specs.Body.{put_section}
use Rattle.mc_column.specs.KeptColumn.{nth_section}
use Rattle.mc_column.proofs.put.made_all.Given as goal

-- the sections below i are made
abbrev pub invariant-loop-i : goal.invariant-loop-i
invariant-loop-i l = (length l.sections.items ≡ l.i) × ((k : ℕ) → k < l.i →
    nth_section l.sections.items k ≡ put_section l.mask true (paired l.blocks) k [])
