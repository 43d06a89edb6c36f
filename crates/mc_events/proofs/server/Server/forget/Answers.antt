use Rattle.std.proofs.Common.{◌≡◌, ℕ, sym, ap, ◌∙◌, rules, not}
use Rattle.std.proofs.lemmas.Fn.{filter_same}
use Rattle.std.specs.Prelude.{◌==◌}
use Rattle.std.specs.Option.{option_copied}
use Rattle.std.specs.List.{filter}
use Rattle.mc_events.proofs.Numbers.{numbers_less}
use Rattle.mc_events.proofs.Seating.{inside}
use Rattle.mc_events.proofs.Standing.{forgot_none, forgot_stands, forgot_still}
use Rattle.mc_events.proofs.server.Server.forget.Goals as goal

pub returns-in_default-clause-follows : goal.returns-in_default-clause-follows
returns-in_default-clause-follows c = λ w st.
    inside (sym c.self.view_is) (forgot_none c.args.k (inside c.self.view_is st)
    (sym c.find.ensures ∙ ap option_copied c.in_default.is))

pub invariant_of-self : goal.invariant_of-self
invariant_of-self c =
    let ids : c.retain.new.self.items
    ≡ filter (λ (j : ℕ). not (j == c.args.k)) c.self.inside.ids.items =
    filter_same _ _ _ (λ x b f' k. search rules) _ _ c.retain.ensures.filtered in
    rw (ids, c.remove.ensures) (numbers_less c.self.inside.ids.items c.self.inside.connections
    c.self.inside.last c.args.k c.self.invariant)

pub returns-then-is_done-clause-follows : goal.returns-then-is_done-clause-follows
returns-then-is_done-clause-follows c = λ w st.
    rw c.remove.ensures (forgot_stands c.args.k (inside c.self.view_is st)
    (sym c.find.ensures ∙ ap option_copied c.in-Some.is) (sym c.if-is_done.ensures))

pub returns-else-is_done-clause-follows : goal.returns-else-is_done-clause-follows
returns-else-is_done-clause-follows c = λ w st.
    inside (sym c.self.view_is) (forgot_still c.args.k (inside c.self.view_is st)
    (sym c.find.ensures ∙ ap option_copied c.in-Some.is) (sym c.if-is_done.ensures))
