use Rattle.std.proofs.Common.{◌≡◌, ◌≢◌, ◌<◌, ◌≤◌, ◌+◌, ◌^◌, ℕ, [], ◌∷◌, refl, inl, inr, sym, ap}
use Rattle.std.proofs.Common.{◌∙◌, arith, rules}
use Rattle.std.proofs.lemmas.Result.{err_from_is_err_and}
use Rattle.mc_wire.specs.declared.answers.Event.{Event}
use Rattle.mc_wire.specs.declared.log.LogEntry.{LogEntry}
use Rattle.mc_wire.specs.LobbyAnswers.{event_entry}
use Rattle.mc_wire.proofs.LobbyCalls.{HasLogged-trans, Logs-refl, StandOrRise-trans}
use Rattle.mc_model.specs.Log.{log_of, logged}
use Rattle.mc_events.specs.Served.{age_of}
use Rattle.mc_server.specs.Drives.{is_tick, one_if}
use Rattle.mc_server.proofs.Few.{one_at_most}
use Rattle.mc_server.proofs.Driven.{driving_next, driving_stands, driving_start, drove_ended}
use Rattle.mc_server.proofs.Driven.{drove_events, drove_failed, drove_out, drove_ticks, still_young}
use Rattle.mc_server.proofs.Driven.{tally_is, told_same}
use Rattle.mc_server.proofs.service.serve.Goals as goal

pub loop-round-init : goal.loop-round-init
loop-round-init g c = record {
  driving = λ w st none. driving_start _ w _ st c.requires.young;
  young = (let young = c.requires.young in let some = c.requires.ticks in
      omega (arith, young, some.0));
  few = omega arith;
  logs = ([], Logs-refl _);
  hears = c.requires.listening;
  falls = inl refl;
}

pub returns-in_default-clause-drove : goal.returns-in_default-clause-drove
returns-in_default-clause-drove g c = λ w st none.
    let h = c.loop-round.invariant in
    drove_failed c.args.budget _ _ w _ c.loop-round._round c.loop-round.joins
    c.loop-round.closed (h.driving w st none) _ c.in_default.ensures.kept h.young
    c.loop-round-test.true

pub returns-in_default-input_of-clause-drove : goal.returns-in_default-input_of-clause-drove
returns-in_default-input_of-clause-drove g c = λ w st none.
    let h = c.loop-round.invariant in
    let d = h.driving w st none in
    let less : c.loop-round._round < 2 ^ 64 = search rules in
    drove_ended c.args.budget _ _ w _ c.loop-round._round c.loop-round.joins
    c.loop-round.closed d _ c.counted.result
    (told_same _ _ _ _ (ap (λ (e : Event). event_entry e c.next.new.buf)
    c.in_default-input_of.ensures) c.in-Ok.ensures.tells) h.young c.loop-round-test.true
    (tally_is _ _ w _ c.loop-round._round c.loop-round.joins c.loop-round.closed d
    c.counted.result c.counted.ensures.joins c.counted.ensures.closed less none)

pub returns-in_default-input_of-clause-logs : goal.returns-in_default-input_of-clause-logs
returns-in_default-input_of-clause-logs g c =
    HasLogged-trans _ _ _ c.loop-round.invariant.logs (_, c.in-Ok.ensures.tells)

pub returns-in_err-take_turn-clause-logs : goal.returns-in_err-take_turn-clause-logs
returns-in_err-take_turn-clause-logs g c =
    HasLogged-trans _ _ _ (HasLogged-trans _ _ _ c.loop-round.invariant.logs
    (_, c.in-Ok.ensures.tells)) c.take_turn.ensures.logs

pub returns-in_err-take_turn-clause-drove : goal.returns-in_err-take_turn-clause-drove
returns-in_err-take_turn-clause-drove g c = λ w st none.
    let h = c.loop-round.invariant in
    let p = err_from_is_err_and c.from_residual.result c.from_residual.ensures.1 in
    rw (p.1, p.2) (drove_out c.args.budget _ _ w _ c.loop-round._round
    c.loop-round.joins c.loop-round.closed (h.driving w st none) _ _
    (HasLogged-trans _ _ _ (_, c.in-Ok.ensures.tells) c.take_turn.ensures.logs) h.young
    c.loop-round-test.true)

pub returns-then-age-from-clause-logs : goal.returns-then-age-from-clause-logs
returns-then-age-from-clause-logs g c =
    HasLogged-trans _ _ _ (HasLogged-trans _ _ _ c.loop-round.invariant.logs
    (_, c.in-Ok.ensures.tells)) c.take_turn.ensures.logs

pub returns-then-age-from-clause-drove : goal.returns-then-age-from-clause-drove
returns-then-age-from-clause-drove g c = λ w st none.
    let h = c.loop-round.invariant in
    let entry : LogEntry = event_entry c.in-Ok.event c.next.new.buf in
    let joined : ℕ = c.loop-round.joins + c.joining.result in
    let ages : age_of c.take_turn.new.server.inner
    ≡ age_of c.loop-round.server.inner + one_if (is_tick entry) =
    c.in_ok-take_turn.ensures.age ∙ c.in-Some.ensures.ages (age_of c.loop-round.server.inner) in
    let less : c.loop-round._round + 1 < 2 ^ 64 = search rules in
    let d = h.driving w st none in
    let t = c.in_ok-take_turn.ensures.turned (logged w (log_of d.turns)) entry (driving_stands d)
    c.in-Some.ensures in
    let next = driving_next _ _ _ _ w _ _
    c.loop-round._round c.loop-round.joins c.loop-round.closed c.in_ok-take_turn.field-0 entry d
    c.in-Ok.ensures.tells t joined c.saturating_add-closed.result ages
    (ap (λ (n : ℕ). c.loop-round.joins + n) (c.joining.ensures.is c.next.new.buf))
    c.saturating_add-closed.ensures less none in
    let ticks = d.ticks in
    let young = h.young in
    drove_ticks c.args.budget _ _ w _ (c.loop-round._round + 1) joined
    c.saturating_add-closed.result next d.turns (entry ∷ t.rest) c.counted-then-age-from.result refl
    (omega (arith, ticks, young))
    (sym c.age.ensures.is ∙ c.if-age-from.true ∙ c.from.ensures)
    (let test = c.loop-round-test.true in omega (arith, test))
    (tally_is _ _ w _ (c.loop-round._round + 1) joined
    c.saturating_add-closed.result next c.counted-then-age-from.result
    c.counted-then-age-from.ensures.joins c.counted-then-age-from.ensures.closed less none)

pub loop-round-preserved : goal.loop-round-preserved
loop-round-preserved g c =
    let h = c.loop-round.invariant in
    let entry : LogEntry = event_entry c.in-Ok.event c.next.new.buf in
    let joined : ℕ = c.loop-round.joins + c.joining.result in
    let ages : age_of c.take_turn.new.server.inner
    ≡ age_of c.loop-round.server.inner + one_if (is_tick entry) =
    c.in_ok-take_turn.ensures.age ∙ c.in-Some.ensures.ages (age_of c.loop-round.server.inner) in
    let less : c.loop-round._round + 1 < 2 ^ 64 = search rules in
    let ne : age_of c.take_turn.new.server.inner ≢ c.args.budget.ticks = λ same.
    c.if-age-from.false (c.age.ensures.is ∙ same ∙ sym c.from.ensures) in
    record {
      driving = λ w st none.
          let d = h.driving w st none in
          driving_next _ _ _ _ w _ _ c.loop-round._round
          c.loop-round.joins c.loop-round.closed c.in_ok-take_turn.field-0 entry d
          c.in-Ok.ensures.tells (c.in_ok-take_turn.ensures.turned (logged w (log_of d.turns)) entry
          (driving_stands d) c.in-Some.ensures) joined c.saturating_add-closed.result ages
          (ap (λ (n : ℕ). c.loop-round.joins + n) (c.joining.ensures.is c.next.new.buf))
          c.saturating_add-closed.ensures less none;
      young = still_young (age_of c.loop-round.server.inner)
          (age_of c.take_turn.new.server.inner)
          (one_if (is_tick entry)) c.args.budget.ticks ages (one_at_most (is_tick entry)) h.young
          ne;
      few = (let few = h.few in let one = c.joining.ensures.few in omega (arith, few, one));
      logs = HasLogged-trans _ _ _ (HasLogged-trans _ _ _ h.logs (_, c.in-Ok.ensures.tells))
          c.take_turn.ensures.logs;
      hears = c.take_turn.ensures.hears;
      falls = StandOrRise-trans _ _ _ (StandOrRise-trans _ _ _ h.falls (inr c.next.ensures.falls))
          c.take_turn.ensures.falls;
    }

pub returns-clause-drove : goal.returns-clause-drove
returns-clause-drove g c = λ w st none.
    let h = c.loop-round.invariant in
    let most : c.loop-round._round ≤ c.args.budget.events = search rules in
    drove_events c.args.budget _ _ w _ c.loop-round._round c.loop-round.joins
    c.loop-round.closed (h.driving w st none) h.young c.loop-round-test.false most
