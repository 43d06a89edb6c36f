use Rattle.std.proofs.Common.{length, ap, ◌∙◌, arith}
use Rattle.mc_links.specs.Kept.{ConnectionValue}
use Rattle.mc_links.specs.contracts.connection.Connection.{the_view}
use Rattle.mc_links.proofs.Handing.{hand_drops, hand_fits}
use Rattle.mc_links.proofs.connection.Connection.hand.Goals as goal

pub returns-then-not-has_room-clause-ok : goal.returns-then-not-has_room-clause-ok
returns-then-not-has_room-clause-ok c = λ packets e.
    hand_drops c.args.self.now c.overflow.new.self packets c.into_vec-bytes.result.items
    (length c.self.inside.backlog) c.len.result c.has_room.result
    c.overflow.ensures (c.into_vec-bytes.ensures ∙ e)
    (ap (λ (d : ConnectionValue). length d.link.owed) c.self.view_is)
    (omega (arith, c.into_vec-bytes.result.ok.0)) c.has_room.ensures c.if-not-has_room.true

pub returns-clause-ok : goal.returns-clause-ok
returns-clause-ok c = λ packets e.
    hand_fits (the_view c.self.inside) c.args.self.now packets c.into_vec-bytes.result.items
    c.push_owned.new.self (length c.self.inside.backlog) c.len.result c.has_room.result
    c.self.view_is (c.into_vec-bytes.ensures ∙ e) c.in_ok-push_owned.ensures
    (ap (λ (d : ConnectionValue). length d.link.owed) c.self.view_is)
    (omega (arith, c.into_vec-bytes.result.ok.0)) c.has_room.ensures c.if-not-has_room.false
