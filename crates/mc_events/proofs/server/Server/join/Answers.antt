use Rattle.std.proofs.Common.{◌≡◌, true, sym, ap, ◌∙◌}
use Rattle.std.specs.Prelude.{if◌then◌else◌}
use Rattle.mc_model.specs.Step.{is_new}
use Rattle.mc_model.specs.declared.cause.Cause.TheVariants as causes
use Rattle.mc_model.specs.Link.{mark_closed, new_link}
use Rattle.mc_links.specs.Kept.{new_connection}
use Rattle.mc_events.specs.Served.{ServerValue}
use Rattle.mc_events.proofs.Numbers.{numbers_more}
use Rattle.mc_events.proofs.Seating.{inside}
use Rattle.mc_events.proofs.Standing.{crowd_is, joined_stands, old_stands}
use Rattle.mc_events.proofs.server.Server.join.Goals as goal

pub returns-then-not-is_new-clause-follows : goal.returns-then-not-is_new-clause-follows
returns-then-not-is_new-clause-follows c = λ w st.
    old_stands c.args.k st (sym c.if-not-is_new.ensures)

pub invariant_of-self-2 : goal.invariant_of-self-2
invariant_of-self-2 c =
    let new : is_new c.args.k c.self.inside.last ≡ true =
    ap (λ (v : ServerValue). is_new c.args.k v.last) c.self.view_is ∙ sym c.if-not-is_new.ensures in
    rw (c.push.ensures.items, c.unwrap.ensures, c.reserve.ensures.items, c.in_ok-add.ensures.ok)
    (numbers_more c.self.inside.ids.items c.self.inside.connections c.self.inside.last c.args.k
    c.joining-connection.result new c.self.invariant)

pub returns-clause-follows : goal.returns-clause-follows
returns-clause-follows c = λ w st.
    rw c.in_ok-add.ensures.ok (joined_stands c.args.k (inside c.self.view_is st)
    (ap (λ (u : ServerValue). is_new c.args.k u.last) c.self.view_is ∙ sym c.if-not-is_new.ensures)
    (c.joining-connection.ensures ∙ ap (λ b. record (new_connection c.args.k) {
      link = if b then mark_closed new_link causes.Crowded else new_link;
    }) (crowd_is st)))
