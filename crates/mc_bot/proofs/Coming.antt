-- Steps of a bot behind one another.
use Rattle.std.proofs.Common.{◌≡◌, ℕ, zero, suc, ◌+◌, List, [], ◌∷◌, ◌++◌, length}
use Rattle.std.proofs.Common.{take, drop, Option, Some, None, Ok, Err, refl, sym, subst}
use Rattle.std.proofs.Common.{ap, ◌∙◌, arith, append_assoc}
use Rattle.std.proofs.lemmas.List.{length-append, append-nil, take-append-drop}
use Rattle.mc_bytes.specs.Reading.{IsBytes}
use Rattle.mc_frame.specs.declared.fault.FrameFault.{FrameFault}
use Rattle.mc_frame.specs.declared.fault.FrameFault.TheVariants.{LongLength, ZeroLength}
use Rattle.mc_frame.specs.Cut.{Cut, Ends, IsCutAt, SpellsFrames, kept_count}
use Rattle.mc_wire.specs.LinkStage.{LinkStage}
use Rattle.mc_wire.specs.LinkTold.{LinkTold, Exchanges}
use Rattle.mc_bot.specs.declared.bot_fault.BotFault.{BotFault}
use Rattle.mc_bot.specs.declared.bot_fault.BotFault.TheVariants as faults
use Rattle.mc_bot.specs.Arriving.{HasPassed}
use Rattle.mc_bot.specs.Playing.{Bot, Course, goes, then_play}
use Rattle.mc_bot.specs.Played.{FailsAs, HasSent}
use Rattle.mc_bot.specs.Steps.{Standing, Frames, HasCome, HasFailed, bot_at}
use Rattle.mc_bot.proofs.Growing.{Keeps, then_keeps}

-- ---- what the link tells

nothing_told : (a : Option LinkTold) → Exchanges a a [] [] []
nothing_told None = tt
nothing_told (Some a) = record {
  asked_to = sym (append-nil a.ports);
  gave = refl;
  took = sym (append-nil a.taken);
}

no_bytes : IsBytes []
no_bytes i = omega arith

more_bytes : (one two : List ℕ) → IsBytes one → IsBytes two → IsBytes (one ++ two)
more_bytes [] two one_fits two_fits i = two_fits i
more_bytes (b ∷ one) two one_fits two_fits zero = one_fits zero
more_bytes (b ∷ one) two one_fits two_fits (suc i) =
    more_bytes one two (λ n. one_fits (suc n)) two_fits i

pub no_exchange : (a : Option LinkTold) → HasPassed a a [] [] []
no_exchange a = (nothing_told a, no_bytes)

-- no byte was given
pub none_given : (a b : Option LinkTold) (ports sent : List ℕ) → Exchanges a b ports [] sent →
    HasPassed a b ports [] sent
none_given a b ports sent exchanged = (exchanged, no_bytes)

told_more : (a b c : Option LinkTold) (ports given sent given' sent' : List ℕ) →
    Exchanges a b ports given sent → Exchanges b c [] given' sent' →
    Exchanges a c ports (given ++ given') (sent ++ sent')
told_more a b None ports given sent given' sent' one two = tt
told_more a None (Some c) ports given sent given' sent' one two = absurd two
told_more None (Some b) (Some c) ports given sent given' sent' one two = absurd one
told_more (Some a) (Some b) (Some c) ports given sent given' sent' one two = record {
  asked_to = two.asked_to ∙ append-nil b.ports ∙ one.asked_to;
  gave = one.gave ∙ ap (λ (l : List ℕ). given ++ l) two.gave
      ∙ sym (append_assoc given given' c.left);
  took = two.took ∙ ap (λ (l : List ℕ). l ++ sent') one.took ∙ append_assoc a.taken sent sent';
}

pub then_exchanged : (a b c : Option LinkTold) (ports given sent given' sent' : List ℕ) →
    HasPassed a b ports given sent → HasPassed b c [] given' sent' →
    HasPassed a c ports (given ++ given') (sent ++ sent')
then_exchanged a b c ports given sent given' sent' one two = (
  told_more a b c ports given sent given' sent' one.0 two.0,
  more_bytes given given' one.1 two.1,
)

-- ---- bytes that are sent

-- nothing was sent, for want of memory
pub none_sent : (bytes : List ℕ) (told : Option LinkTold) →
    HasSent bytes told told (Err faults.NoMemory)
none_sent bytes told =
    record { sent = []; exchanged = no_exchange told; came = (bytes, refl) }

-- all were
pub all_sent_told : (bytes : List ℕ) (told told' : Option LinkTold) →
    Exchanges told told' [] [] bytes → HasSent bytes told told' (Ok tt)
all_sent_told bytes told told' exchanged = record {
  sent = bytes;
  exchanged = none_given told told' [] bytes exchanged;
  came = refl;
}

-- some first part was
pub part_sent : (bytes : List ℕ) (n : ℕ) (told told' : Option LinkTold) →
    Exchanges told told' [] [] (take n bytes) → HasSent bytes told told' (Err faults.Link)
part_sent bytes n told told' exchanged = record {
  sent = take n bytes;
  exchanged = none_given told told' [] (take n bytes) exchanged;
  came = (drop n bytes, sym (take-append-drop n bytes));
}

-- ---- frames behind frames

pub spelled_more : (frames more : List (List ℕ)) (front back : List ℕ) → SpellsFrames frames front →
    SpellsFrames more back → SpellsFrames (frames ++ more) (front ++ back)
spelled_more [] more front back none spelled =
    let P : List ℕ → Type 0 = λ l. SpellsFrames more (l ++ back) in subst P (sym none) spelled
spelled_more (frame ∷ frames) more front back f spelled = (
  f.0,
  f.1 ++ back,
  ap (λ (l : List ℕ). l ++ back) f.2 ∙ append_assoc f.0 f.1 back,
  f.3,
  spelled_more frames more f.1 back f.4 spelled,
)

abbrev pub no_frames : (held : List ℕ) → Frames held [] [] held
no_frames held = record { front = []; parts = append-nil held; framed = refl }

abbrev pub more_frames : (held given : List ℕ) (frames : List (List ℕ)) (left_ given' : List ℕ)
    (frames' : List (List ℕ)) (left' : List ℕ) → Frames held given frames left_ →
    Frames left_ given' frames' left' → Frames held (given ++ given') (frames ++ frames') left'
more_frames held given frames left_ given' frames' left' one two = record {
  front = one.front ++ two.front;
  parts = sym (append_assoc held given given')
      ∙ ap (λ (l : List ℕ). l ++ given') one.parts
      ∙ append_assoc one.front left_ given'
      ∙ ap (λ (l : List ℕ). one.front ++ l) two.parts
      ∙ sym (append_assoc one.front two.front left');
  framed = spelled_more frames frames' one.front two.front one.framed two.framed;
}

-- ---- counts that are kept alike

ends_alike : (n m : ℕ) (rest : List ℕ) (fault : Option FrameFault) →
    kept_count n ≡ kept_count m → Ends n rest fault → Ends m rest fault
ends_alike n m rest None same ends_ = ends_
ends_alike n m rest (Some (LongLength at)) same ends_ = (ends_.0, ends_.1 ∙ same)
ends_alike n m rest (Some (ZeroLength at)) same ends_ = (ends_.0, ends_.1 ∙ same)

kept_more : (n m k : ℕ) → kept_count n ≡ kept_count m → kept_count (n + k) ≡ kept_count (m + k)
kept_more n m k same = omega (arith, same)

pub cut_alike : (n m : ℕ) (bytes : List ℕ) (cut : Cut) → kept_count n ≡ kept_count m →
    IsCutAt n bytes cut → IsCutAt m bytes cut
cut_alike n m bytes cut same is = record {
  front = is.front;
  parts = is.parts;
  framed = is.framed;
  ends = ends_alike (n + length is.front) (m + length is.front) cut.rest cut.fault
      (kept_more n m (length is.front) same) is.ends;
}

-- ---- steps

pub come_none : {S : Type 0} (play : Bot S → Course S) (now : Standing S) →
    HasCome play play now now
come_none {S} play now = record {
  given = [];
  frames = [];
  sent = [];
  exchanged = no_exchange now.told;
  cut = no_frames now.keeping.incoming.splitting.held;
  before = omega arith;
  patience = refl;
  course = λ later fault ended first. ap (λ (sent : List ℕ). play
      (bot_at now later fault ended sent)) (sym (append-nil first));
}

pub come_more : {S : Type 0} (play rest last : Bot S → Course S) (a b c : Standing S) →
    HasCome play rest a b → HasCome rest last b c → HasCome play last a c
come_more {S} play rest last a b c one two = record {
  given = one.given ++ two.given;
  frames = one.frames ++ two.frames;
  sent = one.sent ++ two.sent;
  exchanged = then_exchanged a.told b.told c.told [] one.given one.sent two.given two.sent
      one.exchanged two.exchanged;
  cut = more_frames _ one.given one.frames _ two.given two.frames _ one.cut two.cut;
  before = (let one_at = one.before in let two_at = two.before in
      omega (arith, one_at, two_at, length-append one.cut.front two.cut.front));
  patience = two.patience ∙ one.patience;
  course = λ later fault ended first.
      ap (λ (frames : List (List ℕ)). play (bot_at a frames fault ended first))
      (append_assoc one.frames two.frames later)
      ∙ one.course (two.frames ++ later) fault ended first
      ∙ two.course later fault ended (first ++ one.sent)
      ∙ ap (λ (sent : List ℕ). last (bot_at c later fault ended sent))
      (append_assoc first one.sent two.sent);
}

-- a failure behind steps
pub come_fail : {S : Type 0} (play rest : Bot S → Course S) (a b : Standing S)
    (told : Option LinkTold) (stage : LinkStage) (fault : BotFault) → HasCome play rest a b →
    HasFailed rest b told stage fault → HasFailed play a told stage fault
come_fail {S} play rest a b told stage fault one two = record {
  given = one.given ++ two.given;
  frames = one.frames ++ two.frames;
  sent = one.sent ++ two.sent;
  left_ = two.left_;
  exchanged = then_exchanged a.told b.told told [] one.given one.sent two.given two.sent
      one.exchanged two.exchanged;
  cut = more_frames _ one.given one.frames _ two.given two.frames _ one.cut two.cut;
  course = λ cut first is.
      let n = a.keeping.incoming.splitting.before + length (one.cut.front ++ two.cut.front) in
      let m = b.keeping.incoming.splitting.before + length two.cut.front in
      let at = one.before in
      let counted : kept_count n ≡ kept_count m =
      omega (arith, at, length-append one.cut.front two.cut.front) in
      let failed = two.course cut (first ++ one.sent) (cut_alike n m two.left_ cut counted is) in
      let same : play (bot_at a ((one.frames ++ two.frames) ++ cut.frames) cut.fault stage.ended
      first) ≡ rest (bot_at b (two.frames ++ cut.frames) cut.fault stage.ended
      (first ++ one.sent)) =
      ap (λ (frames : List (List ℕ)). play (bot_at a frames cut.fault stage.ended first))
      (append_assoc one.frames two.frames cut.frames)
      ∙ one.course (two.frames ++ cut.frames) cut.fault stage.ended first in
      rw (same, ← append_assoc first one.sent two.sent, ← one.patience) failed;
}

-- a step that others follow
pub then_come : {S : Type 0} (play next : Bot S → Course S) (a b : Standing S) →
    HasCome play goes a b → HasCome (λ bot. then_play (play bot) next) next a b
then_come {S} play next a b one = record {
  given = one.given;
  frames = one.frames;
  sent = one.sent;
  exchanged = one.exchanged;
  cut = one.cut;
  before = one.before;
  patience = one.patience;
  course = λ later fault ended first.
      ap (λ (course : Course S). then_play course next) (one.course later fault ended first);
}

pub fails_then : {S : Type 0} (course : Course S) (next : Bot S → Course S) (sent : List ℕ)
    (patience run : ℕ) (fault : BotFault) → Keeps next →
    FailsAs course sent patience run fault →
    FailsAs (then_play course next) sent patience run fault
fails_then {S} course next sent patience run (faults.Patience n) keeps fails =
    (ap (λ (c : Course S). then_play c next) fails.0, fails.1, fails.2)
fails_then course next sent patience run faults.Link keeps fails =
    then_keeps sent course next fails keeps
fails_then course next sent patience run faults.NoMemory keeps fails =
    then_keeps sent course next fails keeps
fails_then course next sent patience run faults.Write keeps fails = fails
fails_then {S} course next sent patience run refusal keeps fails =
    (ap (λ (c : Course S). then_play c next) fails.0, fails.1)

pub then_fail : {S : Type 0} (play next : Bot S → Course S) (a : Standing S)
    (told : Option LinkTold) (stage : LinkStage) (fault : BotFault) → Keeps next →
    HasFailed play a told stage fault →
    HasFailed (λ bot. then_play (play bot) next) a told stage fault
then_fail {S} play next a told stage fault keeps one = record {
  given = one.given;
  frames = one.frames;
  sent = one.sent;
  left_ = one.left_;
  exchanged = one.exchanged;
  cut = one.cut;
  course = λ cut first is. fails_then
      (play (bot_at a (one.frames ++ cut.frames) cut.fault stage.ended first)) next
      (first ++ one.sent) a.keeping.incoming.patience stage.quiet_run fault keeps
      (one.course cut first is);
}
