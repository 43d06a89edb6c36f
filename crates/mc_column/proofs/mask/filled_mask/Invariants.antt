use Rattle.std.proofs.Common.{◌≡◌, ◌-◌}
use Rattle.mc_column.specs.Sizes.{section_count}
use Rattle.mc_column.specs.KeptColumn.{nth_section}
use Rattle.mc_column.specs.Sent.{bits, has_block}
use Rattle.mc_column.proofs.mask.filled_mask.Given as goal

abbrev pub invariant-loop-i : goal.invariant-loop-i
invariant-loop-i l = l.mask ≡ bits (λ i. has_block (nth_section l.sections.items i)) l.i
    (section_count - l.i)
