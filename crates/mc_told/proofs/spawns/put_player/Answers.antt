use Rattle.std.proofs.Common.{◌≡◌, ℕ, List, ◌++◌, rules, FitsSigned, sym, ap, ◌∙◌, append_assoc}
use Rattle.std.specs.Int.{w16, w32}
use Rattle.std.proofs.lemmas.Int.{to_z-of_z}
use lib.IntN.{ℤ}
use mir.Val.{to_z, of_z}
use Rattle.mc_slots.specs.Pile.{slot_of}
use Rattle.mc_packets.specs.declared.down.Down.{Down}
use Rattle.mc_packets.specs.declared.down.Down.TheVariants.{HeadLook, SpawnPlayer}
use Rattle.mc_model.specs.declared.seen.SeenKind.{SeenKind}
use Rattle.mc_model.specs.Packets.{frame_of, of_play}
use Rattle.mc_model.specs.Delta.{hand_packets, id_in_hand, no_flags, spawn_as}
use Rattle.mc_sending.specs.Sending.{play_bytes}
use Rattle.mc_sending.proofs.Pieces.{two_put}
use Rattle.mc_told.proofs.spawns.put_player.Goals as goal

pub returns : goal.returns
returns c =
    let row = c.args.row.now in
    let s = row.spot in
    let pile = slot_of row.pile in
    let old = c.args.out.now.items in
    let fits : FitsSigned w32 row.eid = search rules in
    let same = to_z-of_z w32 row.eid fits in
    let in_16 : FitsSigned w16 c.id_in_hand-held.result = search rules in
    let held : to_z w16 (of_z w16 c.id_in_hand-held.result) ≡ id_in_hand pile =
    to_z-of_z w16 c.id_in_hand-held.result in_16 ∙ c.id_in_hand-held.ensures in
    let spawn : Down = SpawnPlayer row.eid c.args.uuid s.x s.y s.z s.yaw s.pitch (id_in_hand pile)
    no_flags in
    let head : Down = HeadLook row.eid s.yaw in
    let hand = hand_packets row.eid c.args.uuid pile in
    let made : c.player.result ≡ spawn = c.player.ensures.value
    ∙ λ i. SpawnPlayer (same i) c.args.uuid s.x s.y s.z s.yaw s.pitch (held i) no_flags in
    let turned : c.head_look.result ≡ head =
    c.head_look.ensures.value ∙ ap (λ (k : ℤ). HeadLook k s.yaw) same in
    let frames : Down → List ℕ = λ packet. frame_of (of_play packet) in
    two_put old c.put_made-2.new.out.items c.put_hand.new.out.items (frames spawn ++ frames head)
    (play_bytes hand)
    (two_put old c.put_made.new.out.items c.put_made-2.new.out.items (frames spawn) (frames head)
    (c.in_ok-put_made.ensures.ok ∙ ap (λ (packet : Down). old ++ frames packet) made)
    (c.in_ok-put_made-2.ensures.ok
    ∙ ap (λ (packet : Down). c.put_made.new.out.items ++ frames packet) turned))
    (c.in_ok-put_hand.ensures c.args.uuid c.requires.kind)
    ∙ ap (λ (t : List ℕ). old ++ t) (append_assoc (frames spawn) (frames head) (play_bytes hand))
    ∙ ap (λ (kind : SeenKind). old ++ play_bytes (spawn_as row.eid kind s pile))
    (sym c.requires.kind)
