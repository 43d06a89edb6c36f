use Rattle.std.proofs.Common.{map, sym, ◌∙◌, ap}
use Rattle.std.proofs.lemmas.Result.{on_ok_weaker}
use Rattle.mc_server.proofs.Plans.{stands_on, items_back}
use Rattle.mc_server.proofs.server.Server.event.Goals as goal

pub returns-clause-follows : goal.returns-clause-follows
returns-clause-follows g c = λ w served.
    let plans = map (λ mind. g.M.Mind.plan mind) in
    let lent = served.plans ∙ ap plans (sym c.as_mut_slice.ensures.value) in
    let back = items_back c.args.self.now.minds.len c.args.self.now.minds.items c.event.new.minds
    (c.event.auto.minds ∙ c.as_mut_slice.ensures.len) in
    stands_on c.event.result _ _ (c.event.ensures.follows w served.stands (λ tick. lent))
    (on_ok_weaker c.event.result (λ is. is ∙ ap plans (sym back))
    (c.event.ensures.plans w served.stands lent))
