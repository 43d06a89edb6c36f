use Rattle.std.proofs.Common.{◌++◌, ℕ, List, ap, sym, subst, ◌∙◌}
use Rattle.std.specs.List.{AllByRecursion}
use Rattle.std.specs.Option.{option_copied}
use Rattle.mc_frame.specs.Kept.{joined}
use Rattle.mc_model.specs.Sight.{others}
use Rattle.mc_sending.specs.Sending.{play_bytes}
use Rattle.mc_flush.specs.Seeing.{MarkValue, carried_packets, column_packets, loaded}
use Rattle.mc_loads.specs.Columns.{IsReady}
use Rattle.mc_flush.proofs.Sent.{changes_put_all}
use Rattle.mc_flush.proofs.client_view.ClientView.push_changes.Goals as goal

pub push_columns-requires : goal.push_columns-requires
push_columns-requires g c =
    let v = c.args.self.now in
    record {
      ready = subst (λ (m : MarkValue). AllByRecursion (IsReady v.land.now) (loaded m v.view))
          (sym c.in_ok-gone.ensures.mark) c.requires.ready;
      frames = c.requires.frames;
    }

pub returns-clause-sent : goal.returns-clause-sent
returns-clause-sent g c =
    let v = c.args.self.now in
    changes_put_all v.land.now v.list.now (others v.me v.folk.now.state.entities) v.pack.now
    (option_copied v.chest) c.args.mark.now v.view v.age v.lines.now (joined c.args.out.now.items)
    (joined c.push_age.new.out.items) (joined c.push_piece.new.out.items)
    (joined c.push_piece-2.new.out.items)
    (joined c.push_columns.new.out.items) (joined c.push_piece-3.new.out.items)
    (joined c.push_slots.new.out.items) (joined c.push_lines.new.out.items)
    c.in_ok-push_age.ensures
    (c.in_ok-push_piece.ensures ∙ ap (λ (t : List ℕ). joined c.push_age.new.out.items ++ t)
    c.in_ok-players.ensures)
    (c.in_ok-push_piece-2.ensures ∙ ap (λ (t : List ℕ). joined c.push_piece.new.out.items ++ t)
    c.in_ok-gone.ensures.gone)
    (c.in_ok-push_columns.ensures.sent ∙ ap (λ (m : MarkValue).
    joined c.push_piece-2.new.out.items ++ play_bytes (column_packets v.land.now m v.view))
    c.in_ok-gone.ensures.mark)
    (c.in_ok-push_piece-3.ensures ∙ ap (λ (t : List ℕ). joined c.push_columns.new.out.items ++ t)
    c.in_ok-gone.ensures.shown)
    (c.in_ok-push_slots.ensures ∙ ap (λ (m : MarkValue).
    joined c.push_piece-3.new.out.items
    ++ play_bytes (carried_packets m v.pack.now (option_copied v.chest)))
    c.in_ok-gone.ensures.mark)
    c.in_ok-push_lines.ensures
