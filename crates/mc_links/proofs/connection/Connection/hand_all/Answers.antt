use Rattle.std.proofs.Common.{List, ℕ, ◌+◌, length, nat_le, refl, ap, ◌∙◌}
use Rattle.mc_frame.specs.Kept.{joined, outbox_max}
use Rattle.mc_links.specs.Kept.{ConnectionValue}
use Rattle.mc_links.specs.contracts.connection.Connection.{the_view}
use Rattle.mc_links.proofs.Handing.{hand_drops, hand_fits}
use Rattle.mc_links.proofs.connection.Connection.hand_all.Goals as goal

pub returns-then-not-has_room_for-clause-ok : goal.returns-then-not-has_room_for-clause-ok
returns-then-not-has_room_for-clause-ok c = λ packets e.
    hand_drops c.args.self.now c.overflow.new.self packets (joined c.args.pieces.items)
    (length c.self.inside.backlog) (length (joined c.args.pieces.items)) c.has_room_for.result
    c.overflow.ensures e (ap (λ (d : ConnectionValue). length d.link.owed) c.self.view_is) refl
    (c.has_room_for.ensures ∙ ap (λ (ps : List (List ℕ)). nat_le
    (length c.self.inside.backlog + length (joined ps)) outbox_max) c.as_slice.ensures.value)
    c.if-not-has_room_for.true

pub returns-clause-ok : goal.returns-clause-ok
returns-clause-ok c = λ packets e.
    hand_fits (the_view c.self.inside) c.args.self.now packets (joined c.args.pieces.items)
    c.push_all.new.self (length c.self.inside.backlog) (length (joined c.args.pieces.items))
    c.has_room_for.result c.self.view_is e c.in_ok-push_all.ensures
    (ap (λ (d : ConnectionValue). length d.link.owed) c.self.view_is) refl
    (c.has_room_for.ensures ∙ ap (λ (ps : List (List ℕ)). nat_le
    (length c.self.inside.backlog + length (joined ps)) outbox_max) c.as_slice.ensures.value)
    c.if-not-has_room_for.false
