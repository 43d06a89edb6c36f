use Rattle.std.proofs.Common.{ℕ, sym, ap, ◌∙◌}
use Rattle.std.proofs.lemmas.Result.{on_ok_weaker}
use Rattle.std.specs.Option.{option_copied_mut}
use Rattle.mc_model.specs.Step.{depart}
use Rattle.mc_model.specs.World.{nothing_unread, unread_of}
use Rattle.mc_events.specs.Served.{age_of}
use Rattle.mc_events.proofs.Numbers.{numbers_kept}
use Rattle.mc_events.proofs.Seating.{away_stands, inside, listed_stands}
use Rattle.mc_events.proofs.Sitting.{leaving_age, leaving_turn, leaving_turned}
use Rattle.mc_events.proofs.server.Server.leave.Goals as goal

pub returns-in_default-clause-follows : goal.returns-in_default-clause-follows
returns-in_default-clause-follows c = λ w e stands leaves.
    away_stands (inside c.self.view_is stands)
    (sym c.find_mut.ensures.is ∙ ap option_copied_mut c.in_default.is)
    (leaving_turn c.args.cause leaves)

pub invariant_of-self-in_err-depart : goal.invariant_of-self-in_err-depart
invariant_of-self-in_err-depart c = numbers_kept c.args.k c.depart.new.connection
    (sym c.find_mut.ensures.is ∙ ap option_copied_mut c.in-Some.is) c.self.invariant

pub invariant_of-self-2 : goal.invariant_of-self-2
invariant_of-self-2 c = numbers_kept c.args.k c.depart.new.connection
    (sym c.find_mut.ensures.is ∙ ap option_copied_mut c.in-Some.is) c.self.invariant

pub returns-clause-follows : goal.returns-clause-follows
returns-clause-follows c = λ w e stands leaves.
    listed_stands (λ (k : ℕ). depart k c.args.cause) c.self.view_is stands
    (sym c.find_mut.ensures.is ∙ ap option_copied_mut c.in-Some.is)
    (leaving_turn c.args.cause leaves)
    (leaving_turned c.args.cause (unread_of c.args.k w)
    (c.in_ok-depart.ensures (unread_of c.args.k w)))
    c.identifier-was.ensures c.list_player.ensures.rest c.list_player.ensures.last
    c.list_player.result c.list_player.ensures.list

pub returns-clause-age : goal.returns-clause-age
returns-clause-age c = on_ok_weaker c.list_player.result (λ follows.
    ap age_of c.list_player.ensures.rest
    ∙ leaving_age c.self.inside.game c.depart.new.game c.in-Some.connection.now
    c.depart.new.connection c.args.cause (c.in_ok-depart.ensures nothing_unread)
    ∙ ap age_of c.self.view_is) c.list_player.ensures.list
