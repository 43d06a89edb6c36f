use Rattle.std.proofs.Common.{◌≡◌, ◌++◌, ℕ, List, map, ◌∙◌, rules}
use Rattle.std.specs.Int.{w8}
use Rattle.std.proofs.lemmas.List.{length-map}
use Rattle.std.proofs.lemmas.Int.{to_z-of_z}
use mir.Val.{to_z, of_z}
use Rattle.mc_slots.specs.Pile.{slot_of}
use Rattle.mc_windows.specs.Pack.{PackValue}
use Rattle.mc_packets.proofs.Begun.{ok_as}
use Rattle.mc_model.specs.Delta.{slot_packets}
use Rattle.mc_sending.specs.Sending.{play_bytes}
use Rattle.mc_flush.proofs.WindowFrames.{slots_put}
use Rattle.mc_flush.proofs.windows.put_changes.Goals as goal

pub returns : goal.returns
returns c =
    let pack : PackValue = c.args.pack.now in
    let window = c.cast_signed-window.result in
    let out : List ℕ = c.args.out.now.items in
    let byte : to_z w8 (of_z w8 window) ≡ to_z w8 pack.window =
    to_z-of_z w8 window (search rules) ∙ c.cast_signed-window.ensures
    ∙ (λ i. to_z w8 (c.pack.view_is i).window) in
    ok_as c.put_slots-2.result c.put_slots-2.new.out.items _ _
    ((λ i. c.put_slots.new.out.items ++ play_bytes (slot_packets (byte i) 27
    (map slot_of (c.slots.ensures i)) (map slot_of (c.pack.view_is i).slots)))
    ∙ slots_put (to_z w8 pack.window) 27 (map slot_of c.args.old.now)
    (map slot_of c.args.chest.now) (map slot_of c.args.mark.now.slots) (map slot_of pack.slots) out
    c.put_slots.new.out.items (length-map c.args.old.now slot_of ∙ c.as_slice.ensures.chest.size)
    (length-map c.args.chest.now slot_of ∙ c.as_slice-2.ensures.chest.size)
    (c.in_ok-put_slots.ensures ∙ (λ i. out ++ play_bytes (slot_packets (byte i) 0
    (map slot_of (c.as_slice.ensures.piles i)) (map slot_of (c.as_slice-2.ensures.piles i))))))
    c.put_slots-2.ensures
