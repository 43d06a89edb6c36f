use Rattle.std.proofs.Common.{◌≡◌, ◌<◌, ◌≤◌, ℕ, List, [], length, refl, inl, inr, ◌∙◌, rules}
use Rattle.mc_wire.proofs.LobbyCalls.{HasLogged-trans, Logs-refl, StandOrRise-trans}
use Rattle.mc_model.specs.Run.{owed_in}
use Rattle.mc_server.proofs.Writing.{front_none, front_some, sending_next, sending_start}
use Rattle.mc_server.proofs.Writing.{sent_all_of_it, sent_broke, sent_stalled}
use Rattle.mc_server.proofs.service.turn.send.Goals as goal

pub sending-init : goal.sending-init
sending-init g c = record {
  sending = λ w st. sending_start c.args.k _ w c.args.server.now st;
  age = refl;
  logs = ([], Logs-refl _);
  hears = c.requires.listening;
  falls = inl refl;
}

pub returns-then-count-eq0-clause-sent : goal.returns-then-count-eq0-clause-sent
returns-then-count-eq0-clause-sent g c = λ w st.
    let front : List ℕ = c.front-front.result.now in
    let none : length front ≡ 0 = search rules in
    sent_all_of_it c.args.k _ _ w c.sending.server
    (λ v stands. front_none front (owed_in c.args.k v) none (c.front-front.ensures.empty v stands))
    (c.sending.invariant.sending w st)

pub sending-preserved : goal.sending-preserved
sending-preserved g c =
    let front : List ℕ = c.front-front.result.now in
    let few : c.min-count.result ≤ length front = search rules in
    let most : c.min-count.result ≤ 65536 = search rules in
    let h = c.sending.invariant in
    record {
      sending = λ w st. sending_next c.args.k c.in-Took.n c.min-count.result front _ _ _ w
          c.sending.server c.took.new.self few most c.front-front.ensures.first
          c.in-Took.ensures.cause c.in-Took.ensures.tells c.took.ensures.follows (h.sending w st);
      age = c.took.ensures.age ∙ h.age;
      logs = HasLogged-trans _ _ _ h.logs (_, c.in-Took.ensures.tells);
      hears = search rules;
      falls = StandOrRise-trans _ _ _ h.falls (inr c.write.ensures.falls);
    }

pub returns-in-Stalled-clause-sent : goal.returns-in-Stalled-clause-sent
returns-in-Stalled-clause-sent g c = λ w st.
    let front : List ℕ = c.front-front.result.now in
    let some : 0 < length front = search rules in
    sent_stalled c.args.k _ _ _ w c.sending.server
    (λ v stands. front_some front (owed_in c.args.k v) some (c.front-front.ensures.empty v stands))
    c.in-Stalled.ensures.tells (c.sending.invariant.sending w st)

pub returns-in-Stalled-clause-logs : goal.returns-in-Stalled-clause-logs
returns-in-Stalled-clause-logs g c =
    HasLogged-trans _ _ _ c.sending.invariant.logs (_, c.in-Stalled.ensures.tells)

pub returns-in_err-event-in-Broken-clause-logs : goal.returns-in_err-event-in-Broken-clause-logs
returns-in_err-event-in-Broken-clause-logs g c =
    HasLogged-trans _ _ _ c.sending.invariant.logs (_, c.in-Broken.ensures.tells)

pub returns-in-Broken-clause-sent : goal.returns-in-Broken-clause-sent
returns-in-Broken-clause-sent g c = λ w st.
    let front : List ℕ = c.front-front.result.now in
    let some : 0 < length front = search rules in
    sent_broke c.args.k _ _ _ w c.sending.server c.event.new.self
    (c.sending.invariant.sending w st)
    (λ v stands. front_some front (owed_in c.args.k v) some (c.front-front.ensures.empty v stands))
    c.in-Broken.ensures.tells
    (λ v stands. c.in_ok-event-in-Broken.ensures.follows v stands (λ tick. absurd cc))

pub returns-in-Broken-clause-logs : goal.returns-in-Broken-clause-logs
returns-in-Broken-clause-logs g c =
    HasLogged-trans _ _ _ c.sending.invariant.logs (_, c.in-Broken.ensures.tells)
