use Rattle.std.proofs.Common.{◌∙◌, arith}
use Rattle.std.proofs.lemmas.Result.{on_ok_weaker}
use Rattle.mc_model.specs.Tick.{at_tick}
use Rattle.mc_events.proofs.Shedding.{sheds_same}
use Rattle.mc_events.proofs.TickEnds.{plans_after, stands_after, stands_amid}
use Rattle.mc_events.proofs.TickLooks.{looks_same}
use Rattle.mc_events.proofs.server.Server.try_tick.Goals as goal

pub returns-clause-follows : goal.returns-clause-follows
returns-clause-follows g c = λ w s plans.
    on_ok_weaker c.show.result (stands_after c.args.self.now c.show.new.self w s)
    (c.show.ensures.follows (at_tick w)
    (c.in_ok-beat.ensures.follows w (stands_amid c.args.self.now w s) plans))

pub returns-clause-plans : goal.returns-clause-plans
returns-clause-plans g c = λ w s plans.
    on_ok_weaker c.show.result (λ _. plans_after w
    ∙ c.in_ok-beat.ensures.plans w (stands_amid c.args.self.now w s) plans) c.show.ensures.age

pub returns-clause-sheds : goal.returns-clause-sheds
returns-clause-sheds g c =
    on_ok_weaker c.show.result (sheds_same c.args.self.now.game c.beat.new.self.game
    c.show.new.self.game c.in_ok-beat.ensures.ready) c.show.ensures.sheds

pub returns-clause-looks : goal.returns-clause-looks
returns-clause-looks g c = λ w s plans.
    let old = c.args.self.now in
    let amid = c.in_ok-beat.ensures.follows w (stands_amid old w s) plans in
    let same = looks_same c.beat.new.self.game old.game.settled (at_tick w).game old.connections
    c.beat.new.self.connections c.in_ok-beat.ensures.settled amid.game
    c.in_ok-beat.ensures.marks in
    omega (arith, c.show.ensures.looks, same)
