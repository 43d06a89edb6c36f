use Rattle.std.proofs.Common.{◌<◌, ◌≤◌, length, sym, subst, ap, ◌∙◌}
use Rattle.std.specs.Option.{option_copied_mut}
use Rattle.std.specs.FinMap.{get, insert}
use Rattle.mc_model.specs.Step.{took, step}
use Rattle.mc_links.specs.Kept.{ConnectionValue}
use Rattle.mc_events.specs.contracts.server.Server.{the_view}
use Rattle.mc_events.specs.Served.{ServerValue}
use Rattle.mc_events.specs.Stands.{Stands, owed_by, owes}
use Rattle.mc_events.proofs.Numbers.{numbers_kept}
use Rattle.mc_events.proofs.Seating.{away_stands, inside, with_turn}
use Rattle.mc_events.proofs.Sitting.{took_falls, took_stands, took_turn}
use Rattle.mc_events.proofs.server.Server.took.Goals as goal

pub returns-in_default-clause-follows : goal.returns-in_default-clause-follows
returns-in_default-clause-follows c = λ w stands. away_stands (inside c.self.view_is stands)
    (sym c.find_mut.ensures.is ∙ ap option_copied_mut c.in_default.is) took_turn

pub invariant_of-self-2 : goal.invariant_of-self-2
invariant_of-self-2 c = numbers_kept c.args.k c.took.new.self
    (sym c.find_mut.ensures.is ∙ ap option_copied_mut c.in-Some.is) c.self.invariant

pub returns-clause-follows : goal.returns-clause-follows
returns-clause-follows c = λ w stands.
    let there = sym c.find_mut.ensures.is ∙ ap option_copied_mut c.in-Some.is in
    subst (λ (d : ConnectionValue). Stands (with_turn (the_view c.self.inside) c.args.k
    c.self.inside.game d c.self.inside.list) (step w (took c.args.k c.args.n)).world)
    (sym c.took.ensures)
    (took_stands (the_view c.self.inside) w c.args.k c.args.n c.in-Some.connection.now
    (inside c.self.view_is stands) there)

pub returns-clause-falls : goal.returns-clause-falls
returns-clause-falls c = λ some most.
    let there = sym c.find_mut.ensures.is ∙ ap option_copied_mut c.in-Some.is in
    let falls = took_falls (the_view c.self.inside) c.args.k c.args.n c.in-Some.connection.now
    there some (subst (λ (x : ServerValue). c.args.n ≤ owes c.args.k x) (sym c.self.view_is) most)
    in
    subst (λ (x : ServerValue). length (owed_by (get (insert c.self.inside.connections c.args.k
    c.took.new.self) c.args.k)) < owes c.args.k x) c.self.view_is
    (subst (λ (d : ConnectionValue). length (owed_by (get (insert c.self.inside.connections
    c.args.k d) c.args.k)) < owes c.args.k (the_view c.self.inside)) (sym c.took.ensures) falls)
