use Rattle.std.proofs.Common.{◌≡◌, ◌++◌, List, map, sym, subst, ap, ◌∙◌}
use Rattle.std.specs.Prelude.{None, replicate}
use Rattle.mc_slots.specs.declared.slot.Slot.{Slot}
use Rattle.mc_slots.specs.declared.slot.Slot.TheVariants as slots
use Rattle.mc_slots.specs.Pile.{slot_of}
use Rattle.mc_windows.specs.Pack.{IsPack, PackValue}
use Rattle.mc_packets.specs.declared.down.Down.TheVariants.{WindowItems}
use Rattle.mc_packets.proofs.Begun.{ok_as}
use Rattle.mc_model.specs.Packets.{frame_of, of_play}
use Rattle.mc_model.proofs.FitsSlots.{window_clear}
use Rattle.mc_sending.specs.Sending.{IsClear}
use Rattle.mc_sending.proofs.Pieces.{play_bytes-one}
use Rattle.mc_flush.proofs.windows.put_own_items.Goals as goal

pub put_made-requires : goal.put_made-requires
put_made-requires c =
    let pack : PackValue = c.args.pack.now in
    let items : c.push_piles.new.items ≡ replicate 9 slots.Empty ++ map slot_of pack.slots =
    c.in_ok-push_piles.ensures ∙ (λ i. c.in_ok-items.ensures i
    ++ map slot_of (c.pack.view_is i).slots) in
    let is : IsPack pack.slots pack.cursor =
    subst (λ (p : PackValue). IsPack p.slots p.cursor) c.pack.view_is c.pack.invariant in
    subst (λ (all : List Slot). IsClear (WindowItems 0 all)) (sym items)
    (window_clear pack None is tt).0

pub returns : goal.returns
returns c =
    let pack : PackValue = c.args.pack.now in
    let items : c.push_piles.new.items ≡ replicate 9 slots.Empty ++ map slot_of pack.slots =
    c.in_ok-push_piles.ensures ∙ (λ i. c.in_ok-items.ensures i
    ++ map slot_of (c.pack.view_is i).slots) in
    ok_as c.put_made.result c.put_made.new.out.items _ _
    (ap (λ (all : List Slot). c.args.out.now.items ++ frame_of (of_play (WindowItems 0 all))) items
    ∙ ap (λ t. c.args.out.now.items ++ t)
    (play_bytes-one (WindowItems 0 (replicate 9 slots.Empty ++ map slot_of pack.slots))))
    c.put_made.ensures.ok
