-- A turn: what happened, the writes behind it, and the closings behind those.
use Rattle.std.proofs.Common.{◌≡◌, ℕ, Bool, true, false, cond, List, [], ◌∷◌, map, Option, refl, ap}
use Rattle.std.proofs.Common.{◌∙◌, arith}
use Rattle.std.proofs.lemmas.List.Sums.{sum_by-cons}
use Rattle.std.specs.List.{count_by}
use Rattle.std.proofs.lemmas.Bool.Decides.{nat_tests}
use Rattle.mc_wire.specs.declared.log.LogEntry.{LogEntry}
use Rattle.mc_wire.specs.declared.log.LogEntry.TheVariants.{Closed}
use Rattle.mc_wire.specs.LobbyTold.{LobbyTold}
use Rattle.mc_wire.proofs.LobbyCalls.{Logs-trans}
use Rattle.mc_model.specs.World.{World}
use Rattle.mc_model.specs.Step.{step}
use Rattle.mc_model.specs.Log.{logged}
use Rattle.mc_model.specs.Turns.{done_in}
use Rattle.mc_laws.proofs.Serving.Logs.{logged_more}
use Rattle.mc_events.specs.declared.input.Input.{Input}
use Rattle.mc_events.specs.Inputs.{event_of}
use Rattle.mc_events.specs.Served.{ServerValue}
use Rattle.mc_server.specs.Drives.{is_join, is_tick, one_if}
use Rattle.mc_server.specs.Minded.{ServedValue, StandsFor}
use Rattle.mc_server.specs.TurnParts.{HasClosed, HasSentAll, HasTurned, IsInputOf}
use Rattle.mc_server.proofs.LogFacts.{IsNoWrite, ours_append, ours_writes, turn_count}
use Rattle.mc_server.proofs.Plans.{logged_plans}

pub one_is : (b : Bool) → cond b 1 0 ≡ one_if b
one_is true = refl
one_is false = refl

tick_no_write : IsNoWrite is_tick
tick_no_write = record { writes = λ w x is. grind (arith, nat_tests); closings = λ k. refl }

join_no_write : IsNoWrite is_join
join_no_write = record { writes = λ w x is. grind (arith, nat_tests); closings = λ k. refl }

-- the world after an input is that after its entry
pub after_input : (entry : LogEntry) (input : Input) (w : World) (served : ServedValue) →
    IsInputOf entry input → StandsFor served (step w (event_of input)).world →
    StandsFor served (logged w (entry ∷ []))
after_input entry input w served is stands = grind (arith, nat_tests)

-- what is written and closed behind it leaves the plans
rest_plans : (entry : LogEntry) (rest : List LogEntry) (w : World) →
    count_by is_tick (entry ∷ rest) ≡ one_if (is_tick entry) →
    (logged w (entry ∷ rest)).plans ≡ (logged w (entry ∷ [])).plans
rest_plans entry rest w ticks =
    let sum = sum_by-cons (λ (x : LogEntry). cond (is_tick x) 1 0) entry rest in
    let one = one_is (is_tick entry) in
    ap (λ (v : World). v.plans) (logged_more w (entry ∷ []) rest)
    ∙ logged_plans rest (logged w (entry ∷ [])) (omega (arith, sum, one, ticks))

pub turned : (entry : LogEntry) (input : Input) (old mid new : Option LobbyTold) (w : World)
    (middle : ServerValue) (after : ServedValue) (count : ℕ) → IsInputOf entry input →
    (logged w (entry ∷ [])).plans ≡ after.plans →
    (sent : HasSentAll old mid (logged w (entry ∷ [])) middle) →
    HasClosed (map Closed (done_in (logged (logged w (entry ∷ [])) sent.writes))) mid new
    (logged (logged w (entry ∷ [])) sent.writes) after.server count →
    HasTurned entry old new w after count
turned entry input old mid new w middle after count is plans sent closed = grind (
  arith,
  logged_more,
  ours_append,
  ours_writes,
  Logs-trans old mid new sent.writes,
  rest_plans entry,
  turn_count is_tick tick_no_write,
  turn_count is_join join_no_write,
)
