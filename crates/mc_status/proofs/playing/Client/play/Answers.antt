use Rattle.std.proofs.Common.{◌≡◌, ◌++◌, ℕ, List, ap, ◌∙◌}
use Rattle.std.proofs.lemmas.Result.{on_ok_weaker}
use Rattle.mc_model.specs.Packets.{bytes_of}
use Rattle.mc_model.specs.Step.{came, on_bytes, step}
use Rattle.mc_status.proofs.Seats.{came_sits}
use Rattle.mc_status.proofs.playing.Client.play.Goals as goal

pub returns-clause-played : goal.returns-clause-played
returns-clause-played g c s has answered =
    let t = on_bytes 0 s c.args.piece.now in
    let taken = c.in_ok-take_owed.ensures.taken t.seat (record {
      world = (step has.world (came 0 c.args.piece.now)).world;
      stands = c.in_ok-event.ensures.follows has.world has.stands (λ tick. absurd cc);
      sits = (came_sits has.world s c.args.piece.now has.sits).0;
    }) in
    let owed : c.take_owed.new.owed.items ≡ bytes_of t.handed = taken.1
    ∙ ap (λ (l : List ℕ). l ++ t.seat.link.owed) c.clear.ensures.items ∙ answered.owed in
    on_ok_weaker c.put_lines.result (λ put. (taken.0, put))
    (c.put_lines.ensures.passes t.handed answered.small (c.deref.ensures.value ∙ owed))

pub returns-clause-breaks : goal.returns-clause-breaks
returns-clause-breaks g c s has answered =
    let t = on_bytes 0 s c.args.piece.now in
    let taken = c.in_ok-take_owed.ensures.taken t.seat (record {
      world = (step has.world (came 0 c.args.piece.now)).world;
      stands = c.in_ok-event.ensures.follows has.world has.stands (λ tick. absurd cc);
      sits = (came_sits has.world s c.args.piece.now has.sits).0;
    }) in
    let owed : c.take_owed.new.owed.items ≡ bytes_of t.handed = taken.1
    ∙ ap (λ (l : List ℕ). l ++ t.seat.link.owed) c.clear.ensures.items ∙ answered.owed in
    c.put_lines.ensures.breaks t.handed answered.small (c.deref.ensures.value ∙ owed)
