-- Turns so far, one turn more, and how serving ends.
use Rattle.std.proofs.Common.{◌≡◌, ◌≢◌, ◌+◌, ◌-◌, ◌^◌, ◌<◌, ◌≤◌, min, ℕ, List, [], ◌∷◌, ◌++◌}
use Rattle.std.proofs.Common.{length, Option, Result, Ok, Err, refl, sym, ap, ◌∙◌, arith}
use Rattle.std.proofs.Common.{append-nil, length-append}
use Rattle.std.proofs.lemmas.Bool.Decides.{nat_tests}
use Rattle.std.specs.FinMap.{empty, len, len-empty}
use Rattle.std.specs.Ordering.{nat_cmp}
use Rattle.mc_wire.specs.declared.log.LogEntry.{LogEntry}
use Rattle.mc_wire.specs.declared.log.LogEntry.TheVariants as entries
use Rattle.mc_wire.specs.LobbyTold.{LobbyTold, with_entries, with_port}
use Rattle.mc_wire.specs.Becoming.{HasLogged, Logs, ToldBecomes}
use Rattle.mc_wire.proofs.LobbyCalls.{Logs-refl, Logs-trans, ToldBecomes-same, ToldBecomes-trans}
use Rattle.mc_wire.proofs.LobbyCalls.{with_entries-nil}
use Rattle.mc_model.specs.Log.{events_in, log_of, logged}
use Rattle.mc_model.specs.Link.{Link}
use Rattle.mc_model.specs.World.{World}
use Rattle.mc_model.specs.Turns.{AreTurns}
use Rattle.mc_laws.proofs.Serving.Logs.{events_more, logged_more}
use Rattle.mc_laws.proofs.Serving.Turns.{turns_right}
use Rattle.mc_events.specs.Asking.{ours_there}
use Rattle.mc_events.specs.Served.{ServerValue, age_of}
use Rattle.mc_events.specs.Stands.{Stands}
use Rattle.mc_server.specs.declared.service.Budget.{Budget}
use Rattle.mc_server.specs.declared.service.Tally.{Tally}
use Rattle.mc_server.specs.declared.service.Ended.{Ended}
use Rattle.mc_server.specs.declared.service.Ended.TheVariants as ends
use Rattle.mc_server.specs.declared.service.DriveFault.{DriveFault}
use Rattle.mc_server.specs.declared.service.DriveFault.TheVariants.{Listen, Next, Events, NoMemory}
use Rattle.mc_server.specs.Minded.{ServedValue, StandsFor}
use Rattle.mc_server.specs.Drives.{Drove, Ends, IsTally, IsWithin, is_join, is_tick, one_if}
use Rattle.mc_server.specs.Drives.{done_log, joins_in, ours_in, ticks_in}
use Rattle.mc_server.specs.TurnParts.{Adds, HasTurned}
use Rattle.mc_server.proofs.Few.{few_log, one_at_most, ours_few}
use Rattle.mc_server.proofs.LogFacts.{adds_more, log_of_more, ours_append, ticks_more, turns_more}

-- so many turns were done, and so many joined, and went as closed by the server itself
pub record IsDriving (old new : Option LobbyTold) (w : World) (served : ServedValue)
    (events joins closed : ℕ) : Type 0 where
  pub turns : List (List LogEntry)
  pub adds : Adds old new w served.server (log_of turns)
  pub plans : (logged w (log_of turns)).plans ≡ served.plans
  pub are_turns : AreTurns w turns
  pub all : length turns ≡ events
  pub ticks : ticks_in turns ≡ age_of served.server
  pub joins_are : joins ≡ joins_in turns
  pub closed_are : closed ≡ ours_in w (log_of turns)
  pub few : joins ≤ events

pub driving_stands : {old new : Option LobbyTold} {w : World} {served : ServedValue}
    {events joins closed : ℕ} (d : IsDriving old new w served events joins closed) →
    StandsFor served (logged w (log_of d.turns))
driving_stands d = record { stands = d.adds.stands; plans = d.plans }

pub driving_start : (old : Option LobbyTold) (w : World) (served : ServedValue) →
    StandsFor served w → age_of served.server ≡ 0 → IsDriving old old w served 0 0 0
driving_start old w served stands young = grind (arith, nat_tests, Logs-refl)

-- no more went and are there than joined
went_few : (w : World) (turns : List (List LogEntry)) → AreTurns w turns → w.links ≡ empty →
    ours_in w (log_of turns) + len (logged w (log_of turns)).links ≤ joins_in turns
went_few w turns are none =
    let few = few_log (log_of turns) w (turns_right turns w are) in
    let size : len w.links ≡ 0 = ap len none ∙ len-empty nat_cmp Link in
    omega (arith, few, size)

-- the sum of those that went is exact: no more went than there were turns
pub small_sum : (a b most : ℕ) → a + b ≤ most → most < 2 ^ 64 → min (a + b) (2 ^ 64 - 1) ≡ a + b
small_sum a b most few less = omega (arith, few, less)

-- the turn that is done next
module _ (old mid next new : Option LobbyTold) (w : World) (before after : ServedValue)
    (events joins closed count : ℕ) (entry : LogEntry)
    (d : IsDriving old mid w before events joins closed) (told : Logs mid next (entry ∷ []))
    (t : HasTurned entry next new (logged w (log_of d.turns)) after count) where
  abbrev turns_now : List (List LogEntry)
  turns_now = d.turns ++ (entry ∷ t.rest) ∷ []

  pub log_now : log_of turns_now ≡ log_of d.turns ++ (entry ∷ t.rest)
  log_now = log_of_more d.turns (entry ∷ t.rest)

  pub are_now : AreTurns w turns_now
  are_now = turns_more w d.turns (entry ∷ t.rest) d.are_turns t.is_turn

  pub ours_now : closed + count ≡ ours_in w (log_of turns_now)
  ours_now =
      let sum = ap (ours_in w) log_now ∙ ours_append w (log_of d.turns) (entry ∷ t.rest) in
      let first = d.closed_are in
      let second = t.counted in
      omega (arith, sum, first, second)

  pub all_now : length turns_now ≡ events + 1
  all_now = let sum = length-append d.turns ((entry ∷ t.rest) ∷ []) in let all = d.all in
      omega (arith, sum, all)

  pub joins_now : joins + one_if (is_join entry) ≡ joins_in turns_now
  joins_now = let sum = ticks_more d.turns (entry ∷ t.rest) is_join in
      let first = d.joins_are in let second = t.joins in omega (arith, sum, first, second)

  pub few_now : w.links ≡ empty → closed + count ≤ events + 1
  few_now none =
      let few = went_few w turns_now are_now none in
      let sum = ours_now in
      let joined = joins_now in
      let less = d.few in
      let one = one_at_most (is_join entry) in
      omega (arith, few, sum, joined, less, one)

  abbrev pub driving_next : (joined went : ℕ) →
      age_of after.server ≡ age_of before.server + one_if (is_tick entry) →
      joined ≡ joins + one_if (is_join entry) → went ≡ min (closed + count) (2 ^ 64 - 1) →
      events + 1 < 2 ^ 64 → w.links ≡ empty → IsDriving old new w after (events + 1) joined went
  driving_next joined went ages joins_is went_is less none = record {
    turns = d.turns ++ (entry ∷ t.rest) ∷ [];
    adds = rw log_now (adds_more old mid new w before.server after.server (log_of d.turns)
        (entry ∷ t.rest) d.adds (record {
          told = Logs-trans mid next new (entry ∷ []) t.rest told t.told;
          stands = t.stands.stands;
        }));
    plans = rw (log_now, logged_more w (log_of d.turns) (entry ∷ t.rest)) t.stands.plans;
    are_turns = are_now;
    all = all_now;
    ticks = (let sum = ticks_more d.turns (entry ∷ t.rest) is_tick in let first = d.ticks in
        let second = t.ticks in omega (arith, sum, first, second, ages));
    joins_are = joins_is ∙ joins_now;
    closed_are = went_is ∙ small_sum closed count (events + 1) (few_now none) less ∙ ours_now;
    few = (let few = d.few in let one = one_at_most (is_join entry) in
        omega (arith, joins_is, few, one));
  }

-- the age stays below one that it is not
pub still_young : (before after one ticks : ℕ) → after ≡ before + one → one ≤ 1 → before < ticks →
    after ≢ ticks → after < ticks
still_young before after one ticks is few young ne = omega (arith, is, few, young, ne)

-- ---- the end

pub told_same : (old new : Option LobbyTold) (x y : LogEntry) → x ≡ y → Logs old new (x ∷ []) →
    Logs old new (y ∷ [])
told_same old new x y same told = rw (← same) told

-- what was counted is the tally
module _ (old new : Option LobbyTold) (w : World) (served : ServedValue) (events joins closed : ℕ)
    (d : IsDriving old new w served events joins closed) (t : Tally) where
  pub tally_is : t.joins ≡ joins →
      ((v : World) → Stands served.server v → closed + ours_there v < 2 ^ 64 →
      t.closed ≡ closed + ours_there v) → events < 2 ^ 64 → w.links ≡ empty →
      IsTally w d.turns t
  tally_is joined counted less none =
      let v : World = logged w (log_of d.turns) in
      let there = ours_few v in
      let few = went_few w d.turns d.are_turns none in
      let went = d.closed_are in
      let joins_are = d.joins_are in
      let most = d.few in
      let sum = counted v d.adds.stands (omega (arith, there, few, went, joins_are, most, less)) in
      record { joins = joined ∙ d.joins_are; closed = omega (arith, sum, went) }

module _ (budget : Budget) (old new : Option LobbyTold) (w : World) (served : ServedValue)
    (events joins closed : ℕ) (d : IsDriving old new w served events joins closed) where
  -- behind the turns these entries were added
  drove_so : (after : Option LobbyTold) (last : List LogEntry)
      (result : Result Ended DriveFault) → Adds old after w served.server (log_of d.turns ++ last) →
      Ends budget w d.turns last result →
      Drove (λ (told : LobbyTold). told) budget old after w served.server result
  drove_so after last result adds ends = record {
    turns = d.turns;
    last = last;
    told = adds.told;
    stands = λ _. adds.stands;
    age = λ _. sym d.ticks;
    are_turns = d.are_turns;
    ends = ends;
  }

  -- nothing was
  adds_all : Adds old new w served.server (log_of d.turns ++ [])
  adds_all = rw append-nil d.adds

  still_within : age_of served.server < budget.ticks → events < budget.events →
      IsWithin budget d.turns
  still_within young more = record {
    ticks = (let ticks = d.ticks in omega (arith, ticks, young));
    events = (let all = d.all in omega (arith, all, more));
  }

  -- so many turns were all
  pub drove_events : age_of served.server < budget.ticks → budget.events ≤ events →
      events ≤ budget.events → Drove (λ (told : LobbyTold). told) budget old new w served.server
      (Err (Events budget.events))
  drove_events young end within =
      let ticks = d.ticks in
      let all = d.all in
      drove_so new [] (Err (Events budget.events)) adds_all
      (omega (arith, ticks, young), omega (arith, all, end, within), refl, refl)

  -- the next event could not be had
  pub drove_failed : (after : Option LobbyTold) → after ≡ new →
      age_of served.server < budget.ticks → events < budget.events →
      Drove (λ (told : LobbyTold). told) budget old after w served.server (Err Next)
  drove_failed after same young more =
      rw same (drove_so new [] (Err Next) adds_all (still_within young more, refl))

  -- memory ran out in a turn, in which the lobby told this
  pub drove_out : (after : Option LobbyTold) (left : ServerValue) → HasLogged new after →
      age_of served.server < budget.ticks → events < budget.events →
      Drove (λ (told : LobbyTold). told) budget old after w left (Err NoMemory)
  drove_out after left more young less = record {
    turns = d.turns;
    last = more.0;
    told = Logs-trans old new after (log_of d.turns) more.0 d.adds.told more.1;
    stands = λ works. absurd (works refl);
    age = λ works. absurd (works refl);
    are_turns = d.are_turns;
    ends = still_within young less;
  }

  -- the lobby ended
  pub drove_ended : (after : Option LobbyTold) (t : Tally) → Logs new after (entries.Ended ∷ []) →
      age_of served.server < budget.ticks → events < budget.events → IsTally w d.turns t →
      Drove (λ (told : LobbyTold). told) budget old after w served.server (Ok (ends.Closed t))
  drove_ended after t told young more tally =
      drove_so after (entries.Ended ∷ []) (Ok (ends.Closed t))
      (adds_more old new after w served.server served.server (log_of d.turns)
      (entries.Ended ∷ []) d.adds (record { told = told; stands = d.adds.stands }))
      (still_within young more, refl, tally)

  -- the last tick came in the last turn
  pub drove_ticks : (first : List (List LogEntry)) (turn : List LogEntry) (t : Tally) →
      d.turns ≡ first ++ turn ∷ [] → ticks_in first < budget.ticks →
      age_of served.server ≡ budget.ticks → events ≤ budget.events → IsTally w d.turns t →
      Drove (λ (told : LobbyTold). told) budget old new w served.server (Ok (ends.Ticks t))
  drove_ticks first turn t parts before end within tally =
      let all = d.all in
      drove_so new [] (Ok (ends.Ticks t)) adds_all (
        record {
          all = d.ticks ∙ end;
          first = first;
          turn = turn;
          parts = parts;
          before = before;
        },
        omega (arith, all, within),
        refl,
        tally,
      )

-- ---- with the port

pub drove_listened : (port : ℕ) (budget : Budget) (old mid new : Option LobbyTold) (w : World)
    (server : ServerValue) (result : Result Ended DriveFault) →
    ToldBecomes old mid (with_port port) →
    Drove (λ (told : LobbyTold). told) budget mid new w server result →
    Drove (with_port port) budget old new w server result
drove_listened port budget old mid new w server result listened d =
    grind (arith, nat_tests, ToldBecomes-trans)

pub told_port : (port : ℕ) (old new : Option LobbyTold) → ToldBecomes old new (with_port port) →
    ToldBecomes old new (λ told. with_entries [] (with_port port told))
told_port port old new listened = grind (arith, nat_tests, ToldBecomes-same, with_entries-nil)

pub drove_deaf : (budget : Budget) (old new : Option LobbyTold) (w : World)
    (server : ServerValue) → Stands server w → age_of server ≡ 0 →
    ToldBecomes old new (with_port budget.port) →
    Drove (with_port budget.port) budget old new w server (Err Listen)
drove_deaf budget old new w server stands young listened = grind (arith, nat_tests, told_port)

-- there was no memory before the first turn
pub drove_unready : (budget : Budget) (old new : Option LobbyTold) (w : World)
    (server : ServerValue) → 1 ≤ budget.ticks → 1 ≤ budget.events →
    ToldBecomes old new (with_port budget.port) →
    Drove (with_port budget.port) budget old new w server (Err NoMemory)
drove_unready budget old new w server ticks events listened = record {
  turns = [];
  last = [];
  told = told_port budget.port old new listened;
  stands = λ works. absurd (works refl);
  age = λ works. absurd (works refl);
  are_turns = tt;
  ends = record { ticks = omega (arith, ticks); events = omega (arith, events) };
}

-- what stands behind the turns that were done makes nothing happen
nothing_last : (budget : Budget) (w : World) (turns : List (List LogEntry)) (last : List LogEntry)
    (result : Result Ended DriveFault) → result ≢ Err NoMemory → Ends budget w turns last result →
    events_in last ≡ []
nothing_last budget w turns last result ne end = grind (arith, nat_tests)

-- so what was done is what happened in the turns
pub events_done : (budget : Budget) (w : World) (turns : List (List LogEntry))
    (last : List LogEntry) (result : Result Ended DriveFault) → Ends budget w turns last result →
    events_in (done_log result turns last) ≡ events_in (log_of turns)
events_done budget w turns last (Err NoMemory) end = refl
events_done budget w turns last other end =
    events_more (log_of turns) last
    ∙ ap (λ es. events_in (log_of turns) ++ es)
    (nothing_last budget w turns last other (λ e. cc) end)
    ∙ append-nil (events_in (log_of turns))
