use Rattle.std.proofs.Common.{◌≡◌, ◌++◌, [], List, map, sym, subst, ap, ◌∙◌, arith}
use Rattle.std.proofs.lemmas.List.{length-append, length-map}
use Rattle.mc_slots.specs.declared.slot.Slot.{Slot}
use Rattle.mc_slots.specs.declared.pile.Pile.{Pile}
use Rattle.mc_slots.specs.Pile.{slot_of}
use Rattle.mc_windows.specs.Pack.{IsPack, PackValue}
use Rattle.mc_packets.specs.declared.down.Down.TheVariants.{WindowItems}
use Rattle.mc_packets.proofs.Begun.{ok_as}
use Rattle.mc_model.specs.Packets.{frame_of, of_play}
use Rattle.mc_model.proofs.AllFacts.{all_joined}
use Rattle.mc_model.proofs.FitsSlots.{SlotFits, items_clear, piles_fit}
use Rattle.mc_sending.specs.Sending.{IsClear}
use Rattle.mc_sending.proofs.Pieces.{play_bytes-one}
use Rattle.mc_flush.proofs.windows.put_chest_items.Goals as goal

-- one list and then another, behind nothing
both : (none one two xs ys : List Slot) → none ≡ [] → one ≡ none ++ xs → two ≡ one ++ ys →
    two ≡ xs ++ ys
both none one two xs ys n first second =
    second ∙ ap (λ (t : List Slot). t ++ ys) (first ∙ ap (λ (t : List Slot). t ++ xs) n)

pub put_made-requires : goal.put_made-requires
put_made-requires c =
    let pack : PackValue = c.args.pack.now in
    let piles = c.args.chest.now in
    let is : IsPack pack.slots pack.cursor =
    subst (λ (p : PackValue). IsPack p.slots p.cursor) c.pack.view_is c.pack.invariant in
    let chest = c.as_slice.ensures.chest in
    let items : c.push_piles-2.new.items ≡ map slot_of piles ++ map slot_of pack.slots =
    both c.new-items.result c.push_piles.new.items c.push_piles-2.new.items _ _
    c.new-items.ensures (c.in_ok-push_piles.ensures
    ∙ ap (λ (all : List Pile). c.new-items.result ++ map slot_of all)
    c.as_slice.ensures.piles)
    (c.in_ok-push_piles-2.ensures
    ∙ (λ i. c.push_piles.new.items ++ map slot_of (c.pack.view_is i).slots)) in
    subst (λ (all : List Slot). IsClear (WindowItems c.args.number all)) (sym items)
    (items_clear c.args.number (map slot_of piles ++ map slot_of pack.slots) c.ranges.number.fits
    (omega (
      arith,
      is.size,
      chest.size,
      length-map pack.slots slot_of,
      length-map piles slot_of,
      length-append (map slot_of piles) (map slot_of pack.slots),
    ))
    (all_joined SlotFits (map slot_of piles) (map slot_of pack.slots)
    (piles_fit piles chest.are_piles) (piles_fit pack.slots is.are_piles)))

pub returns : goal.returns
returns c =
    let pack : PackValue = c.args.pack.now in
    let piles = c.args.chest.now in
    let items : c.push_piles-2.new.items ≡ map slot_of piles ++ map slot_of pack.slots =
    both c.new-items.result c.push_piles.new.items c.push_piles-2.new.items _ _
    c.new-items.ensures (c.in_ok-push_piles.ensures
    ∙ ap (λ (all : List Pile). c.new-items.result ++ map slot_of all)
    c.as_slice.ensures.piles)
    (c.in_ok-push_piles-2.ensures
    ∙ (λ i. c.push_piles.new.items ++ map slot_of (c.pack.view_is i).slots)) in
    ok_as c.put_made.result c.put_made.new.out.items _ _
    ((λ i. c.args.out.now.items ++ frame_of (of_play (WindowItems c.args.number (items i))))
    ∙ ap (λ t. c.args.out.now.items ++ t)
    (play_bytes-one (WindowItems c.args.number (map slot_of piles ++ map slot_of pack.slots))))
    c.put_made.ensures.ok
