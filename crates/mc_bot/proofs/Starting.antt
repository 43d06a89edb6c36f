-- The answer to the login before the lines, and what is sent before it.
use Rattle.std.proofs.Common.{◌≡◌, ℕ, inl, inr, List, [], ◌∷◌}
use Rattle.std.proofs.Common.{Option, Result, Ok, Err, refl, subst, arith}
use Rattle.mc_fields.specs.Row.{packet_read, packet_of}
use Rattle.mc_frame.proofs.Stops.{nothing_part}
use Rattle.mc_hello.specs.LoginDown as login_down
use Rattle.mc_wire.specs.Count.{NeverFalls, StandsOrRises, raised}
use Rattle.mc_wire.specs.LinkStage.{LinkStage, after_connect}
use Rattle.mc_wire.specs.LinkTold.{LinkTold, Exchanges}
use Rattle.mc_wire.proofs.Counts.{NeverFalls-trans}
use Rattle.mc_bot.specs.declared.act.Line.{Line}
use Rattle.mc_bot.specs.declared.bot_fault.BotFault.{BotFault}
use Rattle.mc_bot.specs.declared.bot_fault.BotFault.TheVariants as faults
use Rattle.mc_bot.specs.Arriving.{Arriving, GoesWith, HasNext, HasPassed, IsPatient, nothing_came}
use Rattle.mc_bot.specs.Played.{PlayStart, PlayLeft, HasRun, HasSent, SentAs}
use Rattle.mc_bot.specs.Playing.{SeerRules, Bot, Course, logged_by, logged_in, hello}
use Rattle.mc_bot.specs.Playing.{lines_played}
use Rattle.mc_bot.specs.Steps.{Keeping, Standing, HasFailed, HasTakenFrame, IsStep, LoginAs}
use Rattle.mc_bot.specs.Steps.{left_off, not_logged_in}
use Rattle.mc_bot.proofs.Coming.{no_exchange, none_given, then_exchanged, come_more, come_fail}
use Rattle.mc_bot.proofs.Coming.{then_come, then_fail}
use Rattle.mc_bot.proofs.Finishing.{run_begun, run_steps, logged_lines}
use Rattle.mc_bot.proofs.Growing.{begun_all, logged_keeps, lines_keep}
use Rattle.mc_bot.proofs.Taking.{next_fails, frame_comes, frame_fails, login_as}

-- ---- the answer to the login

-- what a frame is for the login
abbrev pub logging : {S : Type 0} → List ℕ → Bot S → Course S
logging frame = logged_by (packet_of frame (packet_read login_down.rows frame))

login_taken : {S : Type 0} (payload : List ℕ) (seen : S) (read : ℕ) (told : Option LinkTold)
    (result : Result (Unit {0}) BotFault) →
    LoginAs (packet_of payload (packet_read login_down.rows payload)) read result →
    HasTakenFrame (logging payload) seen seen read told told result
login_taken payload seen read told result is = record {
  sent = [];
  exchanged = no_exchange told;
  came = login_as (packet_of payload (packet_read login_down.rows payload)) seen read result is;
}

pub login_next_fails : {S : Type 0} (rules : SeerRules S) (lines : List Line) (now : Standing S)
    (incoming : Arriving) (told : Option LinkTold) (stage : LinkStage) (fault : BotFault) →
    HasNext now.keeping.incoming incoming now.told told stage (Err fault) →
    HasFailed (logged_lines rules lines) now told stage fault
login_next_fails rules lines now incoming told stage fault h =
    then_fail logged_in (lines_played rules lines) now told stage fault (lines_keep rules lines)
    (next_fails logging now incoming told stage fault
    (λ frame. logged_keeps (packet_of frame (packet_read login_down.rows frame))) h)

pub login_fails : {S : Type 0} (rules : SeerRules S) (lines : List Line) (seen : S)
    (old : Keeping) (incoming : Arriving) (payload : List ℕ) (told told1 : Option LinkTold)
    (stage : LinkStage) (fault : BotFault) →
    HasNext old.incoming incoming told told1 stage (Ok payload) →
    LoginAs (packet_of payload (packet_read login_down.rows payload)) old.read (Err fault) →
    HasFailed (logged_lines rules lines) (record { seen = seen; keeping = old; told = told }) told1
    stage fault
login_fails rules lines seen old incoming payload told told1 stage fault h is =
    then_fail logged_in (lines_played rules lines)
    (record { seen = seen; keeping = old; told = told }) told1 stage fault (lines_keep rules lines)
    (frame_fails logging seen seen old incoming payload told told1 told1 stage stage fault h
    (login_taken payload seen old.read told1 (Err fault) is) refl)

pub login_step : {S : Type 0} (rules : SeerRules S) (lines : List Line) (seen : S)
    (old : Keeping) (incoming : Arriving) (payload : List ℕ) (told told1 : Option LinkTold)
    (stage : LinkStage) (b : Standing S) (stage' : LinkStage)
    (result : Result (Unit {0}) BotFault) →
    HasNext old.incoming incoming told told1 stage (Ok payload) →
    LoginAs (packet_of payload (packet_read login_down.rows payload)) old.read (Ok tt) →
    IsStep (lines_played rules lines) left_off (record {
      seen = seen;
      keeping = record old { incoming = incoming; read = raised old.read };
      told = told1;
    }) b stage' result →
    IsStep (logged_lines rules lines) left_off
    (record { seen = seen; keeping = old; told = told }) b stage' result
login_step {S} rules lines seen old incoming payload told told1 stage b stage' (Ok done) h is
    step =
    let first = (frame_comes logging seen seen old incoming payload told told1 told1 stage stage h
    (login_taken payload seen old.read told1 (Ok tt) is) refl).0 in (
      come_more (logged_lines rules lines) (lines_played rules lines) left_off _ _ b
          (then_come logged_in (lines_played rules lines) _ _ first) step.0,
      step.1,
    )
login_step {S} rules lines seen old incoming payload told told1 stage b stage' (Err fault) h is
    step =
    let first = (frame_comes logging seen seen old incoming payload told told1 told1 stage stage h
    (login_taken payload seen old.read told1 (Ok tt) is) refl).0 in
    come_fail (logged_lines rules lines) (lines_played rules lines) _ _ b.told stage' fault
    (then_come logged_in (lines_played rules lines) _ _ first) step

-- ---- before it

pub begin_goes : (patience : ℕ) (stage stage' : LinkStage) →
    stage' ≡ after_connect (Ok tt) stage → GoesWith (nothing_came patience) stage'
begin_goes patience stage stage' is = rw is (record {
  connected = refl;
  open_ = refl;
  run = refl;
  few = omega arith;
  fine = refl;
})

pub begin_patient : (patience : ℕ) → IsPatient (nothing_came patience)
begin_patient patience = inr nothing_part

pub connect_fails : {S : Type 0} (start : PlayStart S) (left_ : PlayLeft S) →
    Exchanges start.told left_.told (start.port ∷ []) [] [] → HasRun start left_ (Err faults.Link)
connect_fails start left_ exchanged = run_begun start left_ faults.Link [] (inl refl)
    (none_given start.told left_.told (start.port ∷ []) [] exchanged)
    (hello start.script.name start.port, refl)

pub hello_fails : {S : Type 0} (start : PlayStart S) (left_ : PlayLeft S) (told : Option LinkTold)
    (fault : BotFault) → Exchanges start.told told (start.port ∷ []) [] [] →
    HasSent (hello start.script.name start.port) told left_.told (Err fault) →
    HasRun start left_ (Err fault)
hello_fails start left_ told fault exchanged sent = each fault sent.came
  where
    both : HasPassed start.told left_.told (start.port ∷ []) [] sent.sent
    both = then_exchanged start.told told left_.told (start.port ∷ []) [] [] [] sent.sent
        (none_given start.told told (start.port ∷ []) [] exchanged) sent.exchanged

    each : (fault : BotFault) →
        SentAs (hello start.script.name start.port) sent.sent (Err fault) →
        HasRun start left_ (Err fault)
    each faults.Link begun = run_begun start left_ faults.Link sent.sent (inl refl) both begun
    each faults.NoMemory begun =
        run_begun start left_ faults.NoMemory sent.sent (inr refl) both begun
    each other begun = absurd begun

whole_hello : {S : Type 0} (start : PlayStart S) (told told1 : Option LinkTold) →
    Exchanges start.told told (start.port ∷ []) [] [] →
    HasSent (hello start.script.name start.port) told told1 (Ok tt) →
    HasPassed start.told told1 (start.port ∷ []) [] (hello start.script.name start.port)
whole_hello start told told1 exchanged sent =
    let P : List ℕ → Type 0 = λ l. HasPassed start.told told1 (start.port ∷ []) [] l in
    subst P sent.came (then_exchanged start.told told told1 (start.port ∷ []) [] [] [] sent.sent
    (none_given start.told told (start.port ∷ []) [] exchanged) sent.exchanged)

pub new_fails : {S : Type 0} (start : PlayStart S) (left_ : PlayLeft S) (told : Option LinkTold) →
    Exchanges start.told told (start.port ∷ []) [] [] →
    HasSent (hello start.script.name start.port) told left_.told (Ok tt) →
    HasRun start left_ (Err faults.NoMemory)
new_fails start left_ told exchanged sent = run_begun start left_ faults.NoMemory
    (hello start.script.name start.port) (inr refl)
    (whole_hello start told left_.told exchanged sent)
    (begun_all (hello start.script.name start.port))

pub run_all : {S : Type 0} (start : PlayStart S) (left_ : PlayLeft S)
    (told told1 : Option LinkTold) (keeping : Keeping) (result : Result (Unit {0}) BotFault) →
    Exchanges start.told told (start.port ∷ []) [] [] →
    HasSent (hello start.script.name start.port) told told1 (Ok tt) →
    IsStep (logged_lines start.rules start.script.lines) left_off
    (record { seen = start.seen; keeping = not_logged_in start.patience; told = told1 })
    (record { seen = left_.seen; keeping = keeping; told = left_.told }) left_.stage result →
    HasRun start left_ result
run_all start left_ told told1 keeping result exchanged sent step =
    run_steps start left_ told1 keeping result (whole_hello start told told1 exchanged sent) step

-- ---- counts

pub never_more : (a b c : ℕ) → NeverFalls a b → StandsOrRises b c → NeverFalls a c
never_more a b c first (inl same) = rw same first
never_more a b c first (inr never) = NeverFalls-trans a b c first never
