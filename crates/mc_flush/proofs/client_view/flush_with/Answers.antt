use Rattle.std.proofs.Common.{◌++◌, ℕ, List, Some, ap, map, sym, subst, ◌∙◌}
use Rattle.std.specs.Option.{option_copied}
use lib.IntN.{pos}
use Rattle.mc_fields.specs.declared.position.Spot.{Spot}
use Rattle.mc_frame.specs.Kept.{joined}
use Rattle.mc_view.specs.Sets.{has}
use Rattle.mc_model.specs.Delta.{delta}
use Rattle.mc_model.specs.Notes.{confirm_packet, noted_packets, notes_of}
use Rattle.mc_model.specs.Sight.{others}
use Rattle.mc_sending.specs.Sending.{play_bytes}
use Rattle.mc_flush.specs.Seeing.{MarkValue, StandsFor, changes, present_parts, seen}
use Rattle.mc_flush.specs.Seeing.{spot_seen, window_kept}
use Rattle.mc_told.specs.Telling.{age_now, beat_now}
use Rattle.mc_flush.proofs.Changes.{tick_put}
use Rattle.mc_flush.proofs.Difference.{delta_is, stands_seen}
use Rattle.mc_told.proofs.Told.{others_rise}
use Rattle.mc_flush.proofs.client_view.flush_with.Goals as goal

pub returns-clause-sent : goal.returns-clause-sent
returns-clause-sent g c p stands =
    let v = c.args.view.now in
    let land = v.land.now in
    let es = others v.me v.folk.now.state.entities in
    let mark = c.args.mark.now in
    let chest = option_copied v.chest in
    tick_put c.args.out.now.items c.push_pieces.new.out.items c.new-pieces.result.items
    c.push_changes.new.out.items c.push_piece.new.out.items c.push_notes.new.out.items
    (changes land v.list.now es v.pack.now chest mark v.view v.age v.lines.now)
    (delta p (seen land v.list.now es v.pack.now chest v.view v.age (p.chat ++ v.lines.now)))
    (map confirm_packet c.args.notes.now.confirms
    ++ noted_packets land.terrain land.edits (has v.view) c.args.notes.now.cells)
    (notes_of c.args.notes.now (spot_seen land v.folk.now.state.entities v.me) v.pack.now
    chest)
    c.new-pieces.ensures.items
    c.in_ok-push_changes.ensures.sent
    (c.in_ok-push_piece.ensures ∙ ap (λ (t : List ℕ). joined c.push_changes.new.out.items ++ t)
    c.in_ok-noted_piece.ensures.is)
    (c.in_ok-push_notes.ensures ∙ ap (λ (spot : Spot). joined c.push_piece.new.out.items
    ++ play_bytes (notes_of c.args.notes.now spot v.pack.now chest)) c.spot.ensures)
    c.in_ok-push_pieces.ensures.ok
    (delta_is land v.list.now es v.pack.now chest mark v.view v.age v.lines.now p
    (pos v.folk.now.state.given) (others_rise v.me (pos v.folk.now.state.given)
    v.folk.now.state.entities c.in_ok-push_changes.ensures.rise) stands)

pub returns-clause-stands : goal.returns-clause-stands
returns-clause-stands g c chat =
    let v = c.args.view.now in
    let land = v.land.now in
    let es = others v.me v.folk.now.state.entities in
    let chest = option_copied v.chest in
    subst (λ (m : MarkValue). StandsFor m (present_parts land v.list.now)
    (seen land v.list.now es v.pack.now chest v.view v.age chat))
    (sym (c.keep.ensures ∙ ap (λ (m : MarkValue). record m {
      beat = beat_now v.age;
      age = age_now v.age;
      view = Some v.view;
      window = window_kept v.pack.now chest;
      slots = v.pack.now.slots;
      cursor = v.pack.now.cursor;
    }) c.in_ok-push_changes.ensures.mark))
    (stands_seen land v.list.now es v.pack.now chest v.view v.age chat)
