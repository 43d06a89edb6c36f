-- The promise of `serve` with a capture, from what the taped lobby says of its tape and from how
-- serving ended.
use Rattle.std.proofs.Common.{◌≡◌, ◌≢◌, ℕ, ◌+◌, ◌-◌, inl, inr, Bool, true, false, cond, List, [], ◌∷◌}
use Rattle.std.proofs.Common.{◌++◌, length, take, Option, Some, None, Result, Ok, Err, refl, sym, ap}
use Rattle.std.proofs.Common.{subst}
use Rattle.std.proofs.Common.{◌∙◌, arith}
use Rattle.std.proofs.lemmas.Bool.Decides.{nat_tests}
use Rattle.std.specs.Prelude.{◌↔◌}
use Rattle.std.proofs.lemmas.List.{append-nil, length-append, take_all}
use Rattle.mc_wire.specs.declared.answers.Pace.{Pace}
use Rattle.mc_wire.specs.declared.log.LogEntry.{LogEntry}
use Rattle.mc_wire.specs.Becoming.{ToldBecomes}
use Rattle.mc_wire.specs.Count.{NeverFalls, Rose}
use Rattle.mc_wire.specs.LobbyCounts.{LobbyCounts}
use Rattle.mc_wire.specs.LobbyTold.{LobbyTold, with_entries, with_pace, with_port}
use Rattle.mc_capture.specs.declared.tape_state.TapeState.{TapeState}
use Rattle.mc_capture.specs.declared.tape_state.TapeState.TheVariants as states
use Rattle.mc_capture.specs.Tape.{TapeMark, tape}
use Rattle.mc_capture.specs.TapeStart.{FaultsSince, IsTape, TapeStart, added, written}
use Rattle.mc_model.specs.Minds.{Plans}
use Rattle.mc_server.specs.declared.service.Budget.{Budget}
use Rattle.mc_server.specs.declared.service.DriveFault.{DriveFault}
use Rattle.mc_server.specs.declared.service.DriveFault.TheVariants.{Listen, Next, Events, NoMemory}
use Rattle.mc_server.specs.declared.service.Ended as drives
use Rattle.mc_server.specs.Drives.{DroveNew}
use Rattle.mc_events.specs.Served.{ServerValue}
use Rattle.mc_words.specs.declared.arguments.ServeOptions.{ServeOptions}
use Rattle.mc_words.specs.declared.ended.Ended.{Ended}
use Rattle.mc_words.specs.declared.ended.Ended.TheVariants as ended
use Rattle.mc_words.specs.Devices.{Devices, LinkDevice, devices}
use Rattle.mc_top.specs.RecordPromise.{Records, ServePromise, ServesBy, Tapes, TapesAll}
use Rattle.mc_top.specs.RecordPromise.{TapesPart}
use Rattle.mc_top.specs.Recording.{IsLost, ended_by_end, ended_recording}
use Rattle.mc_top.specs.ReplayPromise.{start_of}
use Rattle.mc_top.specs.ServePromise.{HasServed, Sums, budget_of}
use Rattle.mc_top.proofs.Serves.{has_served}

-- ---- the tape

-- a port more is none that was there
one_port_more : (ports : List ℕ) (port : ℕ) → ports ++ port ∷ [] ≡ ports → ⊥
one_port_more ports port same =
    let more : length ports + 1 ≡ length ports =
    sym (length-append ports (port ∷ [])) ∙ ap length same in
    omega (arith, more)

-- a lobby that was asked to listen has a tape that is written, unless the sink failed
pub taped_all : (start : TapeStart) (told : Option LobbyTold) (mark : TapeMark) (port : ℕ)
    (entries : List LogEntry) → IsTape start told mark → ToldBecomes start.told told
    (λ told. with_entries entries (with_port port told)) → mark.state ≢ states.Failed →
    TapesAll start.told told start.held mark.held
taped_all start told mark port entries is asks good = record {
  tapes = λ a b xs ys first now held there.
      let t = is a b xs ys first now held there in
      (added a b, t.0, tape (added a b), all a b xs ys first now t.1 t.2, refl);
}
  where
    listened : (o n : Option LobbyTold) (a b : LobbyTold) → o ≡ Some a → n ≡ Some b →
        ToldBecomes o n (λ told. with_entries entries (with_port port told)) →
        b.ports ≡ a.ports ++ port ∷ []
    listened None n a b first now becomes = absurd cc
    listened (Some o) None a b first now becomes = absurd cc
    listened (Some o) (Some n) a b first now becomes =
        let same : o ≡ a = cc in
        let last : n ≡ b = cc in
        ap (λ (t : LobbyTold). t.ports) (sym last ∙ becomes)
        ∙ ap (λ (t : LobbyTold). t.ports ++ port ∷ []) same

    all : (a b : LobbyTold) (xs ys : List ℕ) → start.told ≡ Some a → told ≡ Some b →
        (mark.state ≡ states.Blank → (added a b ≡ []) × (b.ports ≡ a.ports)) →
        ys ≡ xs ++ written mark.state (tape (added a b)) (length ys - length xs) →
        ys ≡ xs ++ tape (added a b)
    all a b xs ys first now blank there = by mark.state refl there
      where
        by : (s : TapeState) → mark.state ≡ s →
            ys ≡ xs ++ written s (tape (added a b)) (length ys - length xs) →
            ys ≡ xs ++ tape (added a b)
        by states.Written s there = there
        by states.Failed s there = absurd (good s)
        by states.Blank s there = absurd (one_port_more a.ports port
            (sym (listened start.told told a b first now asks) ∙ (blank s).1))

-- a first part of it is in any case
pub taped_part : (start : TapeStart) (told : Option LobbyTold) (mark : TapeMark) →
    IsTape start told mark → TapesPart start.told told start.held mark.held
taped_part start told mark is = record {
  tapes = λ a b xs ys first now held there.
      let t = is a b xs ys first now held there in
      let all : List ℕ = tape (added a b) in (
        added a b,
        t.0,
        written mark.state all (length ys - length xs),
        t.2,
        part mark.state all (length ys - length xs),
      );
}
  where
    part : (s : TapeState) (all : List ℕ) (count : ℕ) →
        (n : ℕ) × (written s all count ≡ take n all)
    part states.Blank all count = (0, refl)
    part states.Written all count = (length all, sym (take_all (length all) all (omega arith)))
    part states.Failed all count = (count, refl)

-- ---- a lobby that was told its pace before

pub paced_tapes : (old paced new : Option LobbyTold) (held held' : Option (List ℕ))
    (Wrote : List ℕ → List ℕ → Type 0) (pace : Pace) (change : LobbyTold → LobbyTold) →
    ToldBecomes old paced (with_pace pace) → ToldBecomes paced new change →
    Tapes paced new held held' Wrote → Tapes old new held held' Wrote
paced_tapes old paced new held held' Wrote pace change paces becomes t = record {
  tapes = λ a b xs ys first now before after.
      let p = there old paced new a b first now paces becomes in
      let made = t.tapes p.0 b xs ys p.1 now before after in
      (made.0, made.1 ∙ ap (λ (l : List LogEntry). l ++ made.0) p.2, made.2, made.3, made.4);
}
  where
    there : (o p n : Option LobbyTold) (a b : LobbyTold) → o ≡ Some a → n ≡ Some b →
        ToldBecomes o p (with_pace pace) → ToldBecomes p n change →
        (m : LobbyTold) × (p ≡ Some m) × (m.log ≡ a.log)
    there None p n a b first now paces becomes = absurd cc
    there (Some o) None None a b first now paces becomes = absurd cc
    there (Some o) None (Some n) a b first now paces becomes = absurd becomes
    there (Some o) (Some p) n a b first now paces becomes =
        let same : o ≡ a = cc in
        (p, refl, ap (λ (t : LobbyTold). t.log) paces ∙ ap (λ (t : LobbyTold). t.log) same)

-- nothing but the pace was told, and nothing written
pub untaped : (old paced : Option LobbyTold) (held : Option (List ℕ)) (pace : Pace) →
    ToldBecomes old paced (with_pace pace) → TapesPart old paced held held
untaped old paced held pace paces = record {
  tapes = λ a b xs ys first now before after.
      let same : xs ≡ ys = cc in (
        [],
        log old paced a b first now paces ∙ sym (append-nil a.log),
        [],
        sym same ∙ sym (append-nil xs),
        (0, refl),
      );
}
  where
    log : (o p : Option LobbyTold) (a b : LobbyTold) → o ≡ Some a → p ≡ Some b →
        ToldBecomes o p (with_pace pace) → b.log ≡ a.log
    log None p a b first now paces = absurd cc
    log (Some o) None a b first now paces = absurd cc
    log (Some o) (Some p) a b first now paces =
        let same : o ≡ a = cc in
        let last : p ≡ b = cc in
        ap (λ (t : LobbyTold). t.log) (sym last ∙ paces)
        ∙ ap (λ (t : LobbyTold). t.log) same

-- ---- how it ends

rose_after_pace : (old paced new : ℕ) → NeverFalls old paced → Rose paced new → Rose old new
rose_after_pace old paced new falls rose = grind (arith, nat_tests)

module _ (plans : Plans) (options : ServeOptions) (old paced new : Option LobbyTold)
    (counts mid counts' : LobbyCounts) (link : LinkDevice) (left : Option (List ℕ)) (reads : ℕ)
    (held held' : Option (List ℕ)) (writes writes' : ℕ)
    (pace : ToldBecomes old paced (with_pace options.pace)) (budget : Budget)
    (is : budget ≡ budget_of options) (falls : NeverFalls counts.faults mid.faults) where
  pub recorded_by : (failed : Bool) (end : Result drives.Ended DriveFault) (server : ServerValue) →
      DroveNew budget paced new (start_of plans options.world) server end →
      (failed ≡ false → IsLost end → Rose mid.faults counts'.faults) →
      (failed ≡ true → Rose writes writes') → (failed ≡ false → TapesAll paced new held held') →
      TapesPart paced new held held' →
      Records plans options (ended_recording failed end)
      (devices old counts link left reads held writes)
      (devices new counts' link left reads held' writes')
  recorded_by failed end server drove lost broke all part = by failed end drove lost broke all
    where
      Served : Result drives.Ended DriveFault → Type 0
      Served e = HasServed plans options old new e

      served : (e : Result drives.Ended DriveFault) →
          DroveNew budget paced new (start_of plans options.world) server e → Served e
      served e d = has_served plans options old paced new pace budget is server e d

      whole : (e : Result drives.Ended DriveFault) →
          DroveNew budget paced new (start_of plans options.world) server e →
          TapesAll paced new held held' → TapesAll old new held held'
      whole e d t = paced_tapes old paced new held held' _ options.pace _ pace d.drove.told t

      partly : (e : Result drives.Ended DriveFault) →
          DroveNew budget paced new (start_of plans options.world) server e →
          TapesPart old new held held'
      partly e d = paced_tapes old paced new held held' _ options.pace _ pace d.drove.told part

      by : (f : Bool) (e : Result drives.Ended DriveFault) →
          DroveNew budget paced new (start_of plans options.world) server e →
          (f ≡ false → IsLost e → Rose mid.faults counts'.faults) →
          (f ≡ true → Rose writes writes') → (f ≡ false → TapesAll paced new held held') →
          Records plans options (cond f ended.WriteFault (ended_by_end e))
          (devices old counts link left reads held writes)
          (devices new counts' link left reads held' writes')
      by true e d lost broke all = (broke refl, inr (e, served e d), partly e d)
      by false (Ok end) d lost broke all =
          ((end, served (Ok end) d), whole (Ok end) d (all refl))
      by false (Err Listen) d lost broke all = (
        rose_after_pace counts.faults mid.faults counts'.faults falls (lost refl tt),
        inl (served (Err Listen) d),
        whole (Err Listen) d (all refl),
      )
      by false (Err Next) d lost broke all = (
        rose_after_pace counts.faults mid.faults counts'.faults falls (lost refl tt),
        inr (served (Err Next) d),
        whole (Err Next) d (all refl),
      )
      by false (Err (Events n)) d lost broke all =
          (served (Err (Events n)) d, whole (Err (Events n)) d (all refl))
      by false (Err NoMemory) d lost broke all =
          (inr (Err NoMemory, served (Err NoMemory) d), partly (Err NoMemory) d)

-- it was false, so it was not true
not_true : (b : Bool) → b ≡ false → b ≡ true → ⊥
not_true b is not = cc

-- all of it, from what the taped lobby says
pub records : (plans : Plans) (options : ServeOptions) (start : TapeStart) (mark : TapeMark)
    (old new : Option LobbyTold) (counts counts' : LobbyCounts) (link : LinkDevice)
    (left : Option (List ℕ)) (reads : ℕ) (budget : Budget) (failed : Bool)
    (end : Result drives.Ended DriveFault) (server : ServerValue) →
    ToldBecomes old start.told (with_pace options.pace) →
    NeverFalls counts.faults start.counts.faults → budget ≡ budget_of options →
    DroveNew budget start.told new (start_of plans options.world) server end →
    ((entries : List LogEntry) × ToldBecomes start.told new
    (λ told. with_entries entries (with_port budget.port told))) →
    (mark.state ≢ states.Failed → IsLost end → Rose start.counts.faults counts'.faults) →
    IsTape start new mark → FaultsSince start mark → (failed ≡ true) ↔ (mark.state ≡ states.Failed) →
    Records plans options (ended_recording failed end)
    (devices old counts link left reads start.held start.faults)
    (devices new counts' link left reads mark.held mark.faults)
records plans options start mark old new counts counts' link left reads budget failed end server paces
    falls is drove asks lost tape_ faults told =
    recorded_by plans options old start.told new counts start.counts counts' link left reads
    start.held mark.held start.faults mark.faults paces budget is falls failed end server drove
    (λ no. lost (λ state. not_true failed no (told.1 state))) (λ yes. faults.0 (told.0 yes))
    (λ no. taped_all start new mark budget.port asks.0 tape_ asks.1
    (λ state. not_true failed no (told.1 state))) (taped_part start new mark tape_)

-- the devices as they were found in the lobby that was taped
pub records_as : (plans : Plans) (options : ServeOptions) (how how' : Ended)
    (old new new' : Option LobbyTold) (counts counts' counts'' : LobbyCounts) (link : LinkDevice)
    (left : Option (List ℕ)) (reads : ℕ) (first held held' held'' : Option (List ℕ))
    (none writes writes' writes'' : ℕ) → how' ≡ how → new' ≡ new → counts'' ≡ counts' →
    first ≡ held → held'' ≡ held' → none ≡ writes → writes'' ≡ writes' →
    Records plans options how (devices old counts link left reads held writes)
    (devices new counts' link left reads held' writes') →
    Records plans options how' (devices old counts link left reads first none)
    (devices new' counts'' link left reads held'' writes'')
records_as plans options how how' old new new' counts counts' counts'' link left reads first held held'
    held'' none writes writes' writes'' ends told counted before there faults rose said =
    rw (ends, told, counted, before, there, faults, rose) said

-- ---- with a capture or without

pub served_with : (plans : Plans) (options : ServeOptions) (how : Ended) (before after : Devices) →
    options.capture ≡ true → Records plans options how before after →
    ServePromise plans options how before after
served_with plans options how before after is said =
    subst (λ (b : Bool). ServesBy b plans options how before after) (sym is) said

pub served_without : (plans : Plans) (options : ServeOptions) (how : Ended)
    (before after : Devices) → options.capture ≡ false → Sums plans options how before after →
    ServePromise plans options how before after
served_without plans options how before after is said =
    subst (λ (b : Bool). ServesBy b plans options how before after) (sym is) said
