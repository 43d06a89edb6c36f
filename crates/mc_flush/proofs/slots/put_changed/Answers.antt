use Rattle.std.proofs.Common.{◌≡◌, arith, rules, sym, subst}
use Rattle.std.specs.Int.{w8, w16}
use Rattle.std.proofs.lemmas.Int.{to_z-of_z, to_z_pos}
use lib.IntN.{pos}
use mir.Val.{of_z, to_z}
use Rattle.mc_slots.specs.Pile.{slot_of}
use Rattle.mc_packets.specs.declared.down.Down.TheVariants.{SetSlot}
use Rattle.mc_model.proofs.FitsSlots.{set_slot_clear}
use Rattle.mc_sending.specs.Sending.{IsClear}
use Rattle.mc_flush.proofs.slots.put_changed.Goals as goal

pub put_made-requires : goal.put_made-requires
put_made-requires c =
    let at = c.args.at in
    let new = c.args.new.now in
    let window = c.args.window in
    let w : to_z w8 (of_z w8 window) ≡ window = to_z-of_z w8 window (search rules) in
    let n : to_z w16 at ≡ pos at = to_z_pos w16 at (omega (arith, c.requires.place)) in
    let value : SetSlot (to_z w8 (of_z w8 window)) (to_z w16 at) c.slot.result
    ≡ SetSlot window (pos at) (slot_of new)
    = λ i. SetSlot (w i) (n i) (c.slot.ensures.slot i) in
    subst IsClear (sym value) (set_slot_clear window (pos at) new (search rules)
    (record { sfits = omega (arith, c.requires.place) }) c.requires.range)
