use Rattle.std.proofs.Common.{ℕ, List, ◌++◌, rules, FitsSigned, sym, ap, ◌∙◌}
use Rattle.std.specs.Int.{w32}
use Rattle.std.proofs.lemmas.Int.{to_z-of_z}
use lib.IntN.{ℤ}
use Rattle.mc_slots.specs.Pile.{slot_of}
use Rattle.mc_view.specs.declared.forms.Moves.{Moves}
use Rattle.mc_view.specs.Forms.{moves_of}
use Rattle.mc_model.specs.Delta.{moves_packets, pile_packets}
use Rattle.mc_sending.specs.Sending.{play_bytes}
use Rattle.mc_sending.proofs.Pieces.{play_bytes-append, two_put}
use Rattle.mc_told.proofs.known.put_changed.Goals as goal

pub returns : goal.returns
returns c =
    let row = c.args.row.now in
    let was = c.args.spot.now in
    let old = c.args.out.now.items in
    let fits : FitsSigned w32 row.eid = search rules in
    let same = to_z-of_z w32 row.eid fits in
    let moves = moves_packets row.eid row.spot (moves_of was row.spot) in
    let pile = pile_packets row.eid row.kind (slot_of c.args.pile.now) (slot_of row.pile) in
    record {
      sent = two_put old c.put_own.new.out.items c.put_other.new.out.items (play_bytes moves)
          (play_bytes pile)
          (c.in_ok-put_own.ensures
          ∙ ap (λ (k : ℤ). old ++ play_bytes (moves_packets k row.spot c.form.result)) same
          ∙ ap (λ (m : Moves). old ++ play_bytes (moves_packets row.eid row.spot m)) c.form.ensures)
          c.in_ok-put_other.ensures
          ∙ ap (λ (t : List ℕ). old ++ t) (sym (play_bytes-append moves pile));
    }
