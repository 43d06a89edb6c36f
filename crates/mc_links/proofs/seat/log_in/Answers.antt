use Rattle.std.proofs.Common.{ap, ◌∙◌, to_z, of_z, w32, rules}
use Rattle.std.proofs.lemmas.Int.{to_z-of_z}
use Rattle.std.specs.Prelude.{OnOk}
use Rattle.mc_model.specs.Link.{Link}
use Rattle.mc_model.specs.World.{Seat}
use Rattle.mc_links.specs.Seats.{Becomes}
use Rattle.mc_links.proofs.Performing.{login_entered}
use Rattle.mc_links.proofs.seat.log_in.Goals as goal

pub returns-in-Ok : goal.returns-in-Ok
returns-in-Ok c = λ before unread e.
    login_entered (λ (t : Seat). OnOk c.enter.result (Becomes c.args.game.now c.enter.new.game
    c.args.connection.now c.enter.new.connection t)) c.args.connection.now.id
    (record { game = c.args.game.now.game; link = before; unread = unread })
    (to_z w32 (of_z w32 c.protocol.result)) c.args.name.now c.in-Ok.name
    (to_z-of_z w32 c.protocol.result (search rules) ∙ c.protocol.ensures
    ∙ ap (λ (l : Link). l.protocol) e)
    (rw c.in-Ok.is at c.in_ok-name.ensures) (c.enter.ensures before unread e)
