use Rattle.std.proofs.Common.{◌-◌, ◌≤◌, not, Bool, true, false, arith}
use mir.Val.{bool_byte}
use Rattle.mc_column.specs.Sizes.{section_count}
use Rattle.mc_column.specs.SizesLaws.{section_count-is}
use Rattle.mc_column.specs.KeptColumn.{nth_section}
use Rattle.mc_column.specs.Sent.{has_block}
use Rattle.mc_column.proofs.MaskFacts.{bits_room}
use Rattle.mc_column.proofs.mask.filled_mask.Goals as goal

one_at_most : (b : Bool) → bool_byte b ≤ 1
one_at_most true = omega arith
one_at_most false = omega arith

pub overflow_mul-mask : goal.overflow_mul-mask
overflow_mul-mask c =
    let room = bits_room (λ i. has_block (nth_section c.args.sections.now.items i)) c.loop-i.i
    (section_count - c.loop-i.i) (omega (arith, section_count-is, c.loop-i-test.true)) in
    omega (arith, room, c.loop-i.invariant)

pub overflow_add-mask : goal.overflow_add-mask
overflow_add-mask c =
    let room = bits_room (λ i. has_block (nth_section c.args.sections.now.items i)) c.loop-i.i
    (section_count - c.loop-i.i) (omega (arith, section_count-is, c.loop-i-test.true)) in
    omega (arith, room, c.loop-i.invariant, c.from.ensures, one_at_most (not c.is_air.result))
