use Rattle.std.proofs.Common.{◌+◌, [], drop, get_or, refl, inl, ◌∙◌}
use Rattle.std.proofs.lemmas.List.{drop_all, drop_more}
use Rattle.mc_wire.proofs.LobbyCalls.{HasLogged-trans, Logs-refl, StandOrRise-trans}
use Rattle.mc_server.proofs.Writing.{sending_all_start, sending_all_step, sent_to_all}
use Rattle.mc_server.proofs.service.turn.send_all.Goals as goal

pub loop-k-init : goal.loop-k-init
loop-k-init g c = record {
  sending = λ w st named. sending_all_start c.args.pending.now _ w c.args.server.now st named;
  age = refl;
  logs = ([], Logs-refl _);
  hears = c.requires.listening;
  falls = inl refl;
}

pub loop-k-preserved : goal.loop-k-preserved
loop-k-preserved g c =
    let ks = c.args.pending.now in
    let i = c.loop-k.k-index in
    let h = c.loop-k.invariant in
    record {
      sending = λ w st named. sending_all_step (get_or ks i 0) (drop i ks) (drop (i + 1) ks) _ _ _ w
          c.loop-k.server c.send.new.server (drop_more ks i 0 c.loop-k-test.true)
          (h.sending w st named) c.in_ok-send.ensures.sent;
      age = c.in_ok-send.ensures.age ∙ h.age;
      logs = HasLogged-trans _ _ _ h.logs c.send.ensures.logs;
      hears = c.send.ensures.hears;
      falls = StandOrRise-trans _ _ _ h.falls c.send.ensures.falls;
    }

pub returns-in_err-send-clause-logs : goal.returns-in_err-send-clause-logs
returns-in_err-send-clause-logs g c =
    HasLogged-trans _ _ _ c.loop-k.invariant.logs c.send.ensures.logs

pub returns-clause-sent : goal.returns-clause-sent
returns-clause-sent g c = λ w st named. sent_to_all (drop c.loop-k.k-index c.args.pending.now)
    _ _ w c.loop-k.server
    (drop_all c.loop-k.k-index c.args.pending.now c.loop-k-test.false)
    (c.loop-k.invariant.sending w st named)
