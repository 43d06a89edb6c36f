use Rattle.std.proofs.Common.{◌+◌, [], drop, get_or, refl, inl}
use Rattle.std.proofs.Common.{◌∙◌, arith}
use Rattle.std.proofs.lemmas.List.{drop_all, drop_more}
use Rattle.mc_wire.proofs.LobbyCalls.{HasLogged-trans, Logs-refl, StandOrRise-trans}
use Rattle.mc_server.proofs.Closing.{closed_all, closing_start, closing_step}
use Rattle.mc_server.proofs.service.turn.close_all.Goals as goal

pub loop-k-init : goal.loop-k-init
loop-k-init g c = record {
  closing = λ w st named. closing_start c.args.pending.now _ w c.args.server.now st named;
  few = omega arith;
  age = refl;
  logs = ([], Logs-refl _);
  hears = c.requires.listening;
  falls = inl refl;
}

pub loop-k-preserved : goal.loop-k-preserved
loop-k-preserved g c =
    let ks = c.args.pending.now in
    let i = c.loop-k.k-index in
    let h = c.loop-k.invariant in
    record {
      closing = λ w st named. closing_step (get_or ks i 0) (drop i ks) (drop (i + 1) ks) _ _ _ w
          c.loop-k.server c.close-count.new.server c.loop-k.count c.close-count.result
          (drop_more ks i 0 c.loop-k-test.true) (h.closing w st named) c.close-count.ensures.closed;
      few = (let few = h.few in let one = c.close-count.ensures.few in omega (arith, few, one));
      age = c.close-count.ensures.age ∙ h.age;
      logs = HasLogged-trans _ _ _ h.logs c.close-count.ensures.logs;
      hears = c.close-count.ensures.hears;
      falls = StandOrRise-trans _ _ _ h.falls c.close-count.ensures.falls;
    }

pub returns-clause-closed : goal.returns-clause-closed
returns-clause-closed g c = λ w st named. closed_all (drop c.loop-k.k-index c.args.pending.now)
    _ _ w c.loop-k.server c.loop-k.count
    (drop_all c.loop-k.k-index c.args.pending.now c.loop-k-test.false)
    (c.loop-k.invariant.closing w st named)
