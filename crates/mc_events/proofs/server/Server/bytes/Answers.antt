use Rattle.std.proofs.Common.{ℕ, sym, ap, ◌∙◌}
use Rattle.std.proofs.lemmas.Result.{on_ok_weaker}
use Rattle.std.specs.Option.{option_copied_mut}
use Rattle.mc_model.specs.Step.{on_bytes}
use Rattle.mc_model.specs.World.{Seat, unread_of}
use Rattle.mc_events.specs.Served.{age_of}
use Rattle.mc_events.proofs.Numbers.{numbers_kept}
use Rattle.mc_events.proofs.Seating.{away_stands, inside, link_sits, listed_stands}
use Rattle.mc_events.proofs.Sitting.{came_turn}
use Rattle.mc_events.proofs.server.Server.bytes.Goals as goal

pub returns-in_default-clause-follows : goal.returns-in_default-clause-follows
returns-in_default-clause-follows c = λ w stands. away_stands (inside c.self.view_is stands)
    (sym c.find_mut.ensures.is ∙ ap option_copied_mut c.in_default.is)
    (came_turn (λ i. (c.type_inv.bytes i).fits))

pub invariant_of-self-in_err-on_bytes : goal.invariant_of-self-in_err-on_bytes
invariant_of-self-in_err-on_bytes c = numbers_kept c.args.k c.on_bytes.new.connection
    (sym c.find_mut.ensures.is ∙ ap option_copied_mut c.in-Some.is) c.self.invariant

pub invariant_of-self-2 : goal.invariant_of-self-2
invariant_of-self-2 c = numbers_kept c.args.k c.on_bytes.new.connection
    (sym c.find_mut.ensures.is ∙ ap option_copied_mut c.in-Some.is) c.self.invariant

pub returns-clause-follows : goal.returns-clause-follows
returns-clause-follows c = λ w stands.
    let there = sym c.find_mut.ensures.is ∙ ap option_copied_mut c.in-Some.is in
    let sits = link_sits c.args.k (inside c.self.view_is stands) there in
    listed_stands (λ (k : ℕ) (s : Seat). on_bytes k s c.args.bytes.now) c.self.view_is stands there
    (came_turn (λ i. (c.type_inv.bytes i).fits)) (record {
      becomes = c.in_ok-on_bytes.ensures.becomes (unread_of c.args.k w) sits;
      sits = c.in_ok-on_bytes.ensures.sits (unread_of c.args.k w) sits;
    }) c.identifier-was.ensures c.list_player.ensures.rest c.list_player.ensures.last
    c.list_player.result c.list_player.ensures.list

pub returns-clause-age : goal.returns-clause-age
returns-clause-age c = on_ok_weaker c.list_player.result (λ follows.
    ap age_of c.list_player.ensures.rest ∙ c.in_ok-on_bytes.ensures.age
    ∙ ap age_of c.self.view_is) c.list_player.ensures.list
