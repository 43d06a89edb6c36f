-- Reads of a link one after another, until a whole frame is there.
use Rattle.std.proofs.Common.{◌≡◌, ℕ, ◌+◌, ◌-◌, ◌*◌, ◌^◌, ◌<◌, ◌≤◌, ◌⊎◌, inl, inr}
use Rattle.std.proofs.Common.{List, [], ◌++◌, length, take, Option, Some, None, Ok, Err}
use Rattle.std.proofs.Common.{refl, sym, subst, ap, ◌∙◌, arith, append_assoc}
use Rattle.std.specs.Prelude.{min}
use Rattle.std.proofs.lemmas.List.{append-nil, length-append, length-take, take_all}
use Rattle.mc_bytes.specs.Reading.{IsBytes}
use Rattle.mc_bytes.specs.NumberLaws.{IsBytes-take}
use Rattle.mc_frame.specs.declared.fault.FrameFault.{FrameFault}
use Rattle.mc_frame.specs.declared.fault.Take.{Take}
use Rattle.mc_frame.specs.declared.fault.Take.TheVariants as takes
use Rattle.mc_frame.specs.Cut.{IsPart, Ends}
use Rattle.mc_frame.specs.Held.{Splitting}
use Rattle.mc_frame.specs.Splitting.{Feeds, Takes, TakesFrame, held_max, room_for}
use Rattle.mc_wire.specs.Count.{StandsOrRises}
use Rattle.mc_wire.specs.declared.got.Got.TheVariants.{Bytes, End, Quiet}
use Rattle.mc_wire.specs.LinkStage.{LinkStage, after_read}
use Rattle.mc_wire.specs.LinkTold.{LinkTold, Exchanges}
use Rattle.mc_wire.proofs.Counts.{StandsOrRises-refl, StandsOrRises-trans}
use Rattle.mc_bot.specs.declared.bot_fault.BotFault.{BotFault}
use Rattle.mc_bot.specs.declared.bot_fault.BotFault.TheVariants as faults
use Rattle.mc_bot.specs.Arriving.{Arriving, holding, GoesWith, IsPatient, to_come, tries, ReadAs}
use Rattle.mc_bot.specs.Arriving.{HasGot, HasPassed, HasTries, HasRead, NextAs, HasNext}
use Rattle.mc_bot.proofs.Coming.{no_exchange, then_exchanged}

-- ---- one read

-- nothing was told and nothing read
pub told_same : (told told' : Option LinkTold) → told' ≡ told → HasPassed told told' [] [] []
told_same told told' same = rw same (no_exchange told)

-- the first bytes of a buffer were given
pub told_given : (buffer : List ℕ) (n : ℕ) (told told' : Option LinkTold) → IsBytes buffer →
    Exchanges told told' [] (take n buffer) [] → HasPassed told told' [] (take n buffer) []
told_given buffer n told told' fits exchanged = (exchanged, IsBytes-take n buffer fits)

-- a piece for which there is room is held whole
pub fed_whole : (old new : Splitting) (piece : List ℕ) (count : ℕ) → old.fault ≡ None →
    length old.held + length piece ≤ held_max → Feeds old piece count new →
    (new ≡ holding old piece) × (length new.held ≤ held_max)
fed_whole old new piece count fine room fed =
    let counted : count ≡ length piece = step old.fault fine fed.counted in
    let all : take count piece ≡ piece = take_all count piece (omega (arith, counted)) in
    let is : new ≡ holding old piece = fed.held ∙ ap (λ (l : List ℕ).
    record old { held = old.held ++ l }) all in
    let held : length new.held ≤ held_max =
    rw is (omega (arith, room, length-append old.held piece)) in
    (is, held)
  where
    step : (fault : Option FrameFault) → fault ≡ None →
        count ≡ min (length piece) (room_for fault old.held) →
        count ≡ length piece
    step None fine is = omega (arith, is, room)
    step (Some fault) fine is = absurd cc

-- a first part of a piece has room where the piece has
pub piece_room : (held piece : List ℕ) (count : ℕ) → length held + length piece ≤ held_max →
    length held + length (take count piece) ≤ held_max
piece_room held piece count room = omega (arith, room, length-take count piece)

holding_none : (splitting : Splitting) → splitting ≡ holding splitting []
holding_none splitting = λ i. record splitting { held = sym (append-nil splitting.held) i }

-- ---- what one read came to

pub read_failed : (old next : Arriving) (s s' : Splitting) (told told' : Option LinkTold)
    (stage : LinkStage) (fault : BotFault) → HasGot s s' told told' (Err fault) →
    HasRead old next told told' stage (Err fault)
read_failed old next s s' told told' stage fault got =
    record { given = got.given; exchanged = got.exchanged; came = came fault got.came }
  where
    came : (fault : BotFault) → (fault ≡ faults.Link) ⊎ (fault ≡ faults.NoMemory) →
        ReadAs old next got.given stage (Err fault)
    came faults.Link is = tt
    came faults.NoMemory is = tt
    came other (inl is) = absurd cc
    came other (inr is) = absurd cc

pub read_bytes : (old : Arriving) (s : Splitting) (n : ℕ) (told told' : Option LinkTold)
    (stage stage' : LinkStage) → GoesWith old stage → old.quiets < old.patience →
    HasGot old.splitting s told told' (Ok (Bytes n)) → stage' ≡ after_read (Ok (Bytes n)) stage →
    HasRead old (record old { splitting = s; quiets = 0 }) told told' stage' (Ok tt)
read_bytes old s n told told' stage stage' goes few got is = record {
  given = got.given;
  exchanged = got.exchanged;
  came = (
    got.came.0,
    refl,
    rw is (record {
      connected = goes.connected;
      open_ = goes.open_;
      run = refl;
      few = omega arith;
      fine = ap (λ (it : Splitting). it.fault) got.came.0 ∙ goes.fine;
    }),
    inl (omega (arith, few)),
  );
}

pub read_quiet : (old : Arriving) (s : Splitting) (told told' : Option LinkTold)
    (stage stage' : LinkStage) → GoesWith old stage → IsPart old.splitting.held →
    old.quiets < old.patience → old.patience < 2 ^ 64 →
    HasGot old.splitting s told told' (Ok Quiet) → stage' ≡ after_read (Ok Quiet) stage →
    HasRead old (record old { splitting = s; quiets = old.quiets + 1 }) told told' stage' (Ok tt)
read_quiet old s told told' stage stage' goes part few small got is =
    let run = goes.run in
    let still : s ≡ old.splitting = got.came.0 in
    let P : Splitting → Type 0 = λ it. IsPart it.held in
    record {
      given = got.given;
      exchanged = got.exchanged;
      came = (
        still ∙ holding_none old.splitting ∙ ap (holding old.splitting) (sym got.came.1),
        refl,
        rw is (record {
          connected = goes.connected;
          open_ = goes.open_;
          run = omega (arith, run, few, small);
          few = omega (arith, few);
          fine = ap (λ (it : Splitting). it.fault) still ∙ goes.fine;
        }),
        inr (subst P (sym still) part),
      );
    }

pub read_end : (old next : Arriving) (s : Splitting) (told told' : Option LinkTold)
    (stage stage' : LinkStage) → GoesWith old stage → old.quiets < old.patience →
    HasGot old.splitting s told told' (Ok End) → stage' ≡ after_read (Ok End) stage →
    HasRead old next told told' stage' (Err (faults.Closed []))
read_end old next s told told' stage stage' goes few got is =
    let run = goes.run in
    record {
      given = got.given;
      exchanged = got.exchanged;
      came = (refl, got.came.1, rw is refl, rw is (omega (arith, run, few)));
    }

pub read_none : (old next : Arriving) (told : Option LinkTold) (stage : LinkStage) →
    GoesWith old stage → old.patience ≤ old.quiets →
    HasRead old next told told stage (Err (faults.Patience old.patience))
read_none old next told stage goes out =
    let run = goes.run in
    let few = goes.few in
    record {
      given = [];
      exchanged = no_exchange told;
      came = (refl, refl, goes.open_, omega (arith, run, few, out));
    }

-- ---- how often is read, and how much may come

less_times : (a b c d e : ℕ) → a < b → e ≤ c → a * (c + 1) + e < b * (c + 1) + d
less_times a b c d e less within = grind arith

as_many_times : (a b c d e : ℕ) → a ≤ b → e < d → a * (c + 1) + e < b * (c + 1) + d
as_many_times a b c d e less within = grind arith

pub tries_bytes : (old : Arriving) (s : Splitting) (n answers answers' : ℕ) →
    HasTries (Ok (Bytes n)) answers answers' →
    tries answers' (record old { splitting = s; quiets = 0 }) < tries answers old
tries_bytes old s n answers answers' less = less_times answers' answers old.patience
    (old.patience - old.quiets) (old.patience - 0) less (omega arith)

pub tries_quiet : (old : Arriving) (s : Splitting) (answers answers' : ℕ) →
    old.quiets < old.patience → HasTries (Ok Quiet) answers answers' →
    tries answers' (record old { splitting = s; quiets = old.quiets + 1 }) < tries answers old
tries_quiet old s answers answers' few less = as_many_times answers' answers old.patience
    (old.patience - old.quiets) (old.patience - (old.quiets + 1)) less (omega (arith, few))

pub to_come_bytes : (s s' : Splitting) (n answers answers' : ℕ) →
    HasTries (Ok (Bytes n)) answers answers' → length s'.held ≤ held_max →
    to_come answers' s' ≤ to_come answers s
to_come_bytes s s' n answers answers' less few = omega (arith, less, few)

pub to_come_quiet : (s s' : Splitting) (answers answers' : ℕ) →
    HasTries (Ok Quiet) answers answers' → s' ≡ s → to_come answers' s' ≤ to_come answers s
to_come_quiet s s' answers answers' less same =
    let P : Splitting → Type 0 = λ it. to_come answers' it ≤ to_come answers s in
    let here : to_come answers' s ≤ to_come answers s = omega (arith, less) in
    subst P (sym same) here

-- ---- reads behind one another

-- some reads, none of which made a frame whole that was taken
pub record HasWaited (old now : Arriving) (told told' : Option LinkTold) (stage : LinkStage)
    (faults_ faults' answers answers' : ℕ) : Type 0 where
  pub given : List ℕ
  pub exchanged : HasPassed told told' [] given []
  pub held : now.splitting ≡ holding old.splitting given
  pub patience : now.patience ≡ old.patience
  pub goes : GoesWith now stage
  pub patient : IsPatient now
  pub counts : StandsOrRises faults_ faults'
  pub fewer : to_come answers' now.splitting ≤ to_come answers old.splitting

holding_more : (splitting : Splitting) (given more : List ℕ) →
    holding (holding splitting given) more ≡ holding splitting (given ++ more)
holding_more splitting given more =
    λ i. record splitting { held = append_assoc splitting.held given more i }

pub waited_none : (now : Arriving) (told : Option LinkTold) (stage : LinkStage)
    (faults_ answers : ℕ) → GoesWith now stage → IsPatient now →
    HasWaited now now told told stage faults_ faults_ answers answers
waited_none now told stage faults_ answers goes patient = record {
  given = [];
  exchanged = no_exchange told;
  held = holding_none now.splitting;
  patience = refl;
  goes = goes;
  patient = patient;
  counts = StandsOrRises-refl faults_;
  fewer = omega arith;
}

pub waited_more : (old now next : Arriving) (told told1 told2 : Option LinkTold)
    (stage stage' : LinkStage) (f f1 f2 a a1 a2 : ℕ) →
    HasWaited old now told told1 stage f f1 a a1 →
    HasRead now next told1 told2 stage' (Ok tt) → StandsOrRises f1 f2 →
    to_come a2 next.splitting ≤ to_come a1 now.splitting →
    HasWaited old next told told2 stage' f f2 a a2
waited_more old now next told told1 told2 stage stage' f f1 f2 a a1 a2 waited read counts fewer =
    let less = waited.fewer in
    record {
      given = waited.given ++ read.given;
      exchanged = then_exchanged told told1 told2 [] waited.given [] read.given [] waited.exchanged
          read.exchanged;
      held = read.came.0 ∙ ap (λ (s : Splitting). holding s read.given) waited.held
          ∙ holding_more old.splitting waited.given read.given;
      patience = read.came.1 ∙ waited.patience;
      goes = read.came.2;
      patient = read.came.3;
      counts = StandsOrRises-trans f f1 f2 waited.counts counts;
      fewer = omega (arith, less, fewer);
    }

-- where something but a part of a frame was at the front, the patience has not run out
in_time : (now : Arriving) (answer : Take) → (IsPart now.splitting.held → answer ≡ takes.More) →
    (answer ≡ takes.More → ⊥) → IsPatient now → now.quiets < now.patience
in_time now answer part other (inl few) = few
in_time now answer part other (inr held) = absurd (other (part held))

pub waited_frame : (old now next : Arriving) (told told' : Option LinkTold) (stage : LinkStage)
    (f f' a a' : ℕ) (payload : List ℕ) → HasWaited old now told told' stage f f' a a' →
    next ≡ record now { splitting = next.splitting } →
    TakesFrame now.splitting payload next.splitting →
    (IsPart now.splitting.held → takes.Frame payload ≡ takes.More) →
    HasNext old next told told' stage (Ok payload)
waited_frame old now next told told' stage f f' a a' payload waited kept takes_ part =
    let P : Splitting → Type 0 = λ s. TakesFrame s payload next.splitting in
    let few = in_time now (takes.Frame payload) part (λ e. absurd cc) waited.patient in
    let quiets : next.quiets ≡ now.quiets = ap (λ (it : Arriving). it.quiets) kept in
    let patience : next.patience ≡ now.patience = ap (λ (it : Arriving). it.patience) kept in
    record {
      given = waited.given;
      exchanged = waited.exchanged;
      came = (
        subst P waited.held takes_,
        patience ∙ waited.patience,
        record {
          connected = waited.goes.connected;
          open_ = waited.goes.open_;
          run = waited.goes.run ∙ sym quiets;
          few = (let le = waited.goes.few in omega (arith, le, quiets, patience));
          fine = takes_.fault ∙ waited.goes.fine;
        },
        omega (arith, few, quiets, patience),
      );
    }

pub waited_bad : (old now next : Arriving) (told told' : Option LinkTold) (stage : LinkStage)
    (f f' a a' : ℕ) (fault : FrameFault) → HasWaited old now told told' stage f f' a a' →
    Ends now.splitting.before now.splitting.held (Some fault) →
    (IsPart now.splitting.held → takes.Bad fault ≡ takes.More) →
    HasNext old next told told' stage (Err (faults.Frame fault))
waited_bad old now next told told' stage f f' a a' fault waited ends_ part =
    let P : Splitting → Type 0 = λ s. Ends s.before s.held (Some fault) in
    let few = in_time now (takes.Bad fault) part (λ e. absurd cc) waited.patient in
    let run = waited.goes.run in
    let patience = waited.patience in
    record {
      given = waited.given;
      exchanged = waited.exchanged;
      came = (subst P waited.held ends_, omega (arith, few, run, patience));
    }

pub waited_lost : (old now next : Arriving) (told told' : Option LinkTold) (stage : LinkStage)
    (f f' a a' : ℕ) → HasWaited old now told told' stage f f' a a' →
    HasNext old next told told' stage (Err faults.NoMemory)
waited_lost old now next told told' stage f f' a a' waited =
    record { given = waited.given; exchanged = waited.exchanged; came = tt }

-- a read ended it
pub waited_fails : (old now next last : Arriving) (told told1 told2 : Option LinkTold)
    (stage stage' : LinkStage) (f f' a a' : ℕ) (fault : BotFault) →
    HasWaited old now told told1 stage f f' a a' → IsPart now.splitting.held →
    HasRead now next told1 told2 stage' (Err fault) →
    HasNext old last told told2 stage' (Err fault)
waited_fails old now next last told told1 told2 stage stage' f f' a a' fault waited part read =
    record {
      given = waited.given ++ read.given;
      exchanged = then_exchanged told told1 told2 [] waited.given [] read.given [] waited.exchanged
          read.exchanged;
      came = came fault read.came;
    }
  where
    still : read.given ≡ [] → IsPart (old.splitting.held ++ (waited.given ++ read.given))
    still none =
        let P : Splitting → Type 0 = λ s. IsPart s.held in
        let held : IsPart (old.splitting.held ++ waited.given) = subst P waited.held part in
        rw (none, append-nil waited.given) held

    came : (fault : BotFault) → ReadAs now next read.given stage' (Err fault) →
        NextAs old last (waited.given ++ read.given) stage' (Err fault)
    came faults.Link is = tt
    came faults.NoMemory is = tt
    came (faults.Closed reason) is = (
      is.0,
      still is.1,
      is.2,
      (let few = is.3 in let patience = waited.patience in omega (arith, few, patience)),
    )
    came (faults.Patience n) is =
        (is.0 ∙ waited.patience, still is.1, is.2, is.3 ∙ waited.patience)
    came other is = absurd is

-- after what stood at the front was looked at
pub waited_read_fails : (old now now1 next last : Arriving) (told told1 told2 : Option LinkTold)
    (stage stage' : LinkStage) (f f' a a' : ℕ) (fault : BotFault) →
    HasWaited old now told told1 stage f f' a a' →
    now1 ≡ record now { splitting = now1.splitting } →
    Takes now.splitting takes.More now1.splitting →
    HasRead now1 next told1 told2 stage' (Err fault) →
    HasNext old last told told2 stage' (Err fault)
waited_read_fails old now now1 next last told told1 told2 stage stage' f f' a a' fault waited kept
    took read =
    let still : ◌≡◌ {A = Arriving} (record now { splitting = now1.splitting }) now =
    (λ i. record now { splitting = took.2 i }) in
    let P : Arriving → Type 0 = λ it. HasRead it next told1 told2 stage' (Err fault) in
    waited_fails old now next last told told1 told2 stage stage' f f' a a' fault waited took.0
    (subst P (kept ∙ still) read)

-- and the read gave something, or was quiet
pub waited_read_more : (old now now1 next : Arriving) (told told1 told2 : Option LinkTold)
    (stage stage' : LinkStage) (f f1 f2 a a1 a2 : ℕ) →
    HasWaited old now told told1 stage f f1 a a1 →
    now1 ≡ record now { splitting = now1.splitting } →
    Takes now.splitting takes.More now1.splitting →
    HasRead now1 next told1 told2 stage' (Ok tt) → StandsOrRises f1 f2 →
    to_come a2 next.splitting ≤ to_come a1 now1.splitting →
    HasWaited old next told told2 stage' f f2 a a2
waited_read_more old now now1 next told told1 told2 stage stage' f f1 f2 a a1 a2 waited kept took
    read counts fewer =
    let still : ◌≡◌ {A = Arriving} (record now { splitting = now1.splitting }) now =
    (λ i. record now { splitting = took.2 i }) in
    let P : Arriving → Type 0 = λ it. HasRead it next told1 told2 stage' (Ok tt) in
    let Q : Splitting → Type 0 = λ s. to_come a2 next.splitting ≤ to_come a1 s in
    waited_more old now next told told1 told2 stage stage' f f1 f2 a a1 a2 waited
    (subst P (kept ∙ still) read) counts (subst Q took.2 fewer)
