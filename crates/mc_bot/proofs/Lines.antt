-- What a line comes to, and lines behind one another.
use Rattle.std.proofs.Common.{◌≡◌, ℕ, zero, suc, ◌-◌, ◌<◌, ◌≤◌, Bool, true, false, List, []}
use Rattle.std.proofs.Common.{◌∷◌, ◌++◌, Option, Some, None, Result, Ok, Err, refl}
use Rattle.std.proofs.Common.{sym, subst, ap, ◌∙◌, arith, append_assoc}
use Rattle.std.proofs.lemmas.List.{append-nil}
use lib.IntN.{ℤ}
use Rattle.mc_fields.specs.declared.packet.PacketFault.{PacketFault}
use Rattle.mc_fields.specs.declared.position.Cell.{Cell}
use Rattle.mc_fields.specs.Row.{packet_read, packet_of}
use Rattle.mc_frame.specs.declared.fault.FrameFault.{FrameFault}
use Rattle.mc_packets.specs.declared.down.Down.{Down}
use Rattle.mc_packets.specs.Down as play
use Rattle.mc_wire.specs.LinkStage.{LinkStage}
use Rattle.mc_wire.specs.LinkTold.{LinkTold}
use Rattle.mc_bot.specs.declared.act.Act.{Act}
use Rattle.mc_bot.specs.declared.act.Act.TheVariants as acts
use Rattle.mc_bot.specs.declared.act.Line.{Line}
use Rattle.mc_bot.specs.declared.bot_fault.BotFault.{BotFault}
use Rattle.mc_bot.specs.declared.bot_fault.BotFault.TheVariants as faults
use Rattle.mc_bot.specs.Asked.{Asked, ask_all, packets_of}
use Rattle.mc_bot.specs.Played.{IsBegun, FailsAs, HasSent, SentAs}
use Rattle.mc_bot.specs.Arriving.{HasPassed}
use Rattle.mc_bot.specs.Playing.{SeerRules, Bot, Course, goes, ends, then_play, with_frame}
use Rattle.mc_bot.specs.Playing.{packet_taken, packets_taken, taken_by, taken_if, taken_until}
use Rattle.mc_bot.specs.Playing.{farewell, is_state, compared, number_past, with_asked, acted}
use Rattle.mc_bot.specs.Playing.{is_leaving, line_played, lines_played, all_sent}
use Rattle.mc_bot.specs.Steps.{Keeping, Standing, HasCome, HasFailed, CanGoOn, ComparedAs, bot_at}
use Rattle.mc_bot.specs.Steps.{IsStep, left_off}
use Rattle.mc_bot.proofs.Coming.{no_exchange, no_frames, come_none}
use Rattle.mc_bot.proofs.Coming.{then_come, then_fail, fails_then}
use Rattle.mc_bot.proofs.Growing.{packets_keep, until_keeps, lines_keep, begun_more}

-- ---- nothing is read or sent

-- two plays that are one, where a bot stands so
pub come_same : {S : Type 0} (play rest : Bot S → Course S) (a : Standing S) →
    ((bot : Bot S) → bot.seen ≡ a.seen → play bot ≡ rest bot) → HasCome play rest a a
come_same {S} play rest a same = record {
  given = [];
  frames = [];
  sent = [];
  exchanged = no_exchange a.told;
  cut = no_frames a.keeping.incoming.splitting.held;
  before = omega arith;
  patience = refl;
  course = λ later fault ended first. same (bot_at a later fault ended first) refl
      ∙ ap (λ (sent : List ℕ). rest (bot_at a later fault ended sent)) (sym (append-nil first));
}

-- a play that fails where a bot stands so
fail_same : {S : Type 0} (play : Bot S → Course S) (a : Standing S) (stage : LinkStage)
    (fault : BotFault) → ((bot : Bot S) → bot.seen ≡ a.seen →
    FailsAs (play bot) bot.sent a.keeping.incoming.patience stage.quiet_run fault) →
    HasFailed play a a.told stage fault
fail_same {S} play a stage fault fails = record {
  given = [];
  frames = [];
  sent = [];
  left_ = a.keeping.incoming.splitting.held;
  exchanged = no_exchange a.told;
  cut = no_frames a.keeping.incoming.splitting.held;
  course = λ cut first is.
      rw (append-nil first) (fails (bot_at a cut.frames cut.fault stage.ended first) refl);
}

-- ---- so many packets

pub one_fewer : {S : Type 0} (rules : SeerRules S) {left_ : ℕ} {a b : Standing S} → 0 < left_ →
    HasCome (packet_taken rules) goes a b →
    HasCome (packets_taken rules left_) (packets_taken rules (left_ - 1)) a b
unfolding packets_taken
one_fewer rules {left_ = zero} some one = absurd (omega (arith, some))
one_fewer rules {left_ = suc n} {a} {b} some one =
    let same : suc n - 1 ≡ n = omega arith in
    rw same (then_come (packet_taken rules) (packets_taken rules n) a b one)

pub one_fails : {S : Type 0} (rules : SeerRules S) {left_ : ℕ} {a : Standing S}
    {told : Option LinkTold} {stage : LinkStage} {fault : BotFault} → 0 < left_ →
    HasFailed (packet_taken rules) a told stage fault →
    HasFailed (packets_taken rules left_) a told stage fault
unfolding packets_taken
one_fails rules {left_ = zero} some one = absurd (omega (arith, some))
one_fails rules {left_ = suc n} {a} {told} {stage} {fault} some one =
    then_fail (packet_taken rules) (packets_taken rules n) a told stage fault
    (packets_keep rules n) one

pub none_left : {S : Type 0} (rules : SeerRules S) {left_ : ℕ} {a : Standing S} → left_ ≤ 0 →
    HasCome (packets_taken rules left_) goes a a
unfolding packets_taken
none_left rules {left_ = zero} {a} none = come_none goes a
none_left rules {left_ = suc n} none = absurd (omega (arith, none))

-- ---- packets until a cell has a state

-- a play in which packets are taken until a cell has a state
abbrev pub until : {S : Type 0} → SeerRules S → Cell → ℕ → Bot S → Course S
until rules cell state bot = taken_until rules cell state bot.ahead.frames bot

taken_keeps_ahead : {S : Type 0} (rules : SeerRules S) (read : Result Down PacketFault)
    (bot q : Bot S) → taken_by rules read bot ≡ goes q → q.ahead.frames ≡ bot.ahead.frames
taken_keeps_ahead {S} rules (Err fault) bot q is = absurd cc
taken_keeps_ahead {S} rules (Ok packet) bot q is =
    step (farewell packet) (rules.refuses bot.seen packet) is
  where
    step : (reason : Option (List ℕ)) (fault : Option _) →
        taken_if rules reason fault packet bot ≡ goes q → q.ahead.frames ≡ bot.ahead.frames
    step (Some reason) fault is = absurd cc
    step None (Some fault) is = absurd cc
    step None None is = cc

-- where one is taken, it was the first
took_first : {S : Type 0} (rules : SeerRules S) (frames : List (List ℕ)) (bot q : Bot S) →
    with_frame frames bot (λ frame. taken_by rules (packet_of frame (packet_read play.rows frame)))
    ≡ goes q → (frame : List ℕ) × (frames ≡ frame ∷ q.ahead.frames)
took_first rules [] bot q is = absurd cc
took_first rules (frame ∷ frames) bot q is = (
  frame,
  ap (λ (l : List (List ℕ)). frame ∷ l) (sym (taken_keeps_ahead rules
      (packet_of frame (packet_read play.rows frame))
      (record bot { ahead = record bot.ahead { frames = frames } }) q is)),
)

until_frames : {S : Type 0} (rules : SeerRules S) (cell : Cell) (state : ℕ)
    (frames : List (List ℕ)) (frame : List ℕ) (bot q : Bot S) →
    is_state (rules.block_at bot.seen cell) state ≡ false →
    packet_taken rules bot ≡ goes q → frames ≡ frame ∷ q.ahead.frames →
    taken_until rules cell state frames bot ≡ until rules cell state q
unfolding taken_until
until_frames {S} rules cell state frames frame bot q other taken is =
    rw (is, other) (ap (λ (c : Course S). then_play c
    (taken_until rules cell state q.ahead.frames)) taken)

until_next : {S : Type 0} (rules : SeerRules S) (cell : Cell) (state : ℕ) (bot q : Bot S) →
    is_state (rules.block_at bot.seen cell) state ≡ false →
    packet_taken rules bot ≡ goes q → until rules cell state bot ≡ until rules cell state q
until_next rules cell state bot q other taken =
    let first = took_first rules bot.ahead.frames bot q taken in
    until_frames rules cell state bot.ahead.frames first.0 bot q other taken first.1

pub until_comes : {S : Type 0} (rules : SeerRules S) (cell : Cell) (state : ℕ) {a b : Standing S} →
    is_state (rules.block_at a.seen cell) state ≡ false → HasCome (packet_taken rules) goes a b →
    HasCome (until rules cell state) (until rules cell state) a b
until_comes {S} rules cell state {a} {b} other one = record {
  given = one.given;
  frames = one.frames;
  sent = one.sent;
  exchanged = one.exchanged;
  cut = one.cut;
  before = one.before;
  patience = one.patience;
  course = λ later fault ended first. until_next rules cell state
      (bot_at a (one.frames ++ later) fault ended first)
      (bot_at b later fault ended (first ++ one.sent)) other (one.course later fault ended first);
}

-- where none is taken, the play is that of the next packet
until_stays : {S : Type 0} (rules : SeerRules S) (cell : Cell) (state : ℕ)
    (frames : List (List ℕ)) (bot : Bot S) →
    is_state (rules.block_at bot.seen cell) state ≡ false →
    (next : Bot S → Course S) × ((taken_until rules cell state frames bot ≡
    then_play (packet_taken rules bot) next) × ((q : Bot S) → IsBegun q.sent
    (all_sent (next q))))
unfolding taken_until
until_stays rules cell state [] bot other =
    (goes, (rw other (then_goes (packet_taken rules bot)), λ q. ([], sym (append-nil q.sent))))
  where
    then_goes : {S : Type 0} (course : Course S) → course ≡ then_play course goes
    then_goes (goes bot) = refl
    then_goes (ends end_ sent) = refl
until_stays rules cell state (frame ∷ frames) bot other =
    (taken_until rules cell state frames, (rw other refl, until_keeps rules cell state frames))

pub until_fails : {S : Type 0} (rules : SeerRules S) (cell : Cell) (state : ℕ) {a : Standing S}
    {told : Option LinkTold} {stage : LinkStage} {fault : BotFault} →
    is_state (rules.block_at a.seen cell) state ≡ false →
    HasFailed (packet_taken rules) a told stage fault →
    HasFailed (until rules cell state) a told stage fault
until_fails {S} rules cell state {a} {told} {stage} {fault} other one = record {
  given = one.given;
  frames = one.frames;
  sent = one.sent;
  left_ = one.left_;
  exchanged = one.exchanged;
  cut = one.cut;
  course = λ cut first is.
      let stays = until_stays rules cell state (one.frames ++ cut.frames)
      (bot_at a (one.frames ++ cut.frames) cut.fault stage.ended first) other in
      rw stays.1.0 (fails_then
      (packet_taken rules (bot_at a (one.frames ++ cut.frames) cut.fault stage.ended first))
      stays.0 (first ++ one.sent) a.keeping.incoming.patience stage.quiet_run fault stays.1.1
      (one.course cut first is));
}

-- where the cell has the state already
pub until_done : {S : Type 0} (rules : SeerRules S) (cell : Cell) (state : ℕ) {a : Standing S} →
    is_state (rules.block_at a.seen cell) state ≡ true → HasCome (until rules cell state) goes a a
unfolding taken_until
until_done {S} rules cell state {a} is =
    come_same (until rules cell state) goes a (λ bot same. shown bot.ahead.frames bot (rw same is))
  where
    shown : (frames : List (List ℕ)) (bot : Bot S) →
        is_state (rules.block_at bot.seen cell) state ≡ true →
        taken_until rules cell state frames bot ≡ goes bot
    shown [] bot is = rw is refl
    shown (frame ∷ frames) bot is = rw is refl

-- ---- a cell is compared

-- a play in which a cell is compared
abbrev pub comparing : {S : Type 0} → SeerRules S → ℕ → Cell → ℕ → Bot S → Course S
comparing rules line cell want bot = compared line want (rules.block_at bot.seen cell) bot

pub compared_comes : {S : Type 0} (rules : SeerRules S) (line : ℕ) (cell : Cell) (want : ℕ)
    (a : Standing S) → is_state (rules.block_at a.seen cell) want ≡ true →
    HasCome (comparing rules line cell want) goes a a
compared_comes rules line cell want a is =
    come_same (comparing rules line cell want) goes a (λ bot same. rw (same, is) refl)

pub compared_fails : {S : Type 0} (rules : SeerRules S) (line : ℕ) (cell : Cell) (want : ℕ)
    (a : Standing S) (stage : LinkStage) → CanGoOn a.keeping stage →
    is_state (rules.block_at a.seen cell) want ≡ false →
    HasFailed (comparing rules line cell want) a a.told stage
    (faults.Expect line want (rules.block_at a.seen cell))
compared_fails rules line cell want a stage goes_on other =
    let run = goes_on.goes.run in
    let few = goes_on.patient in
    fail_same (comparing rules line cell want) a stage
    (faults.Expect line want (rules.block_at a.seen cell))
    (λ bot same. (rw (same, other) refl, omega (arith, run, few)))

-- ---- packets are asked for

-- a play in which the packets of a line are asked for and sent
abbrev pub acting : {S : Type 0} → SeerRules S → Act → Bot S → Course S
acting rules act bot = goes (acted rules act bot)

abbrev asked_for : {S : Type 0} → SeerRules S → Act → Standing S → Asked S
asked_for rules act a = ask_all rules.asks rules.sends (record { seen = a.seen; bytes = [] })
    (packets_of (rules.slot_at a.seen) (rules.window_at a.seen) a.keeping.number act)

pub acted_comes : {S : Type 0} (rules : SeerRules S) (act : Act) (a : Standing S) (seen : S)
    (bytes : List ℕ) (told : Option LinkTold) →
    ◌≡◌ {A = Asked S} (record { seen = seen; bytes = bytes })
    (ask_all rules.asks rules.sends (record { seen = a.seen; bytes = [] })
    (packets_of (rules.slot_at a.seen) (rules.window_at a.seen) a.keeping.number act)) →
    HasPassed a.told told [] [] bytes →
    HasCome (acting rules act) goes a (record {
      seen = seen;
      keeping = record a.keeping { number = number_past act a.keeping.number };
      told = told;
    })
acted_comes {S} rules act a seen bytes told asked exchanged = record {
  given = [];
  frames = [];
  sent = bytes;
  exchanged = exchanged;
  cut = no_frames a.keeping.incoming.splitting.held;
  before = omega arith;
  patience = refl;
  course = λ later fault ended first. sym (ap (λ (asked : Asked S).
      goes (with_asked (number_past act a.keeping.number) asked
      (bot_at a later fault ended first))) asked);
}

pub act_lost : {S : Type 0} (rules : SeerRules S) (act : Act) (a : Standing S)
    (stage : LinkStage) → HasFailed (acting rules act) a a.told stage faults.NoMemory
act_lost rules act a stage = fail_same (acting rules act) a stage faults.NoMemory
    (λ bot same. begun_more bot.sent _)

pub act_fails : {S : Type 0} (rules : SeerRules S) (act : Act) (a : Standing S) (seen : S)
    (bytes : List ℕ) (told : Option LinkTold) (stage : LinkStage) (fault : BotFault) →
    ◌≡◌ {A = Asked S} (record { seen = seen; bytes = bytes })
    (ask_all rules.asks rules.sends (record { seen = a.seen; bytes = [] })
    (packets_of (rules.slot_at a.seen) (rules.window_at a.seen) a.keeping.number act)) →
    HasSent bytes a.told told (Err fault) → HasFailed (acting rules act) a told stage fault
act_fails {S} rules act a seen bytes told stage fault asked sent = record {
  given = [];
  frames = [];
  sent = sent.sent;
  left_ = a.keeping.incoming.splitting.held;
  exchanged = sent.exchanged;
  cut = no_frames a.keeping.incoming.splitting.held;
  course = λ cut first is. each fault sent.came first cut.frames cut.fault stage.ended;
}
  where
    part : IsBegun sent.sent bytes → (first : List ℕ) →
        IsBegun (first ++ sent.sent) (first ++ (asked_for rules act a).bytes)
    part begun first = (
      begun.0,
      ap (λ (asked : Asked S). first ++ asked.bytes) (sym asked)
          ∙ ap (λ (l : List ℕ). first ++ l) begun.1
          ∙ sym (append_assoc first sent.sent begun.0),
    )

    each : (fault : BotFault) → SentAs bytes sent.sent (Err fault) → (first : List ℕ) →
        (frames : List (List ℕ)) (stream : Option FrameFault) (ended : Bool) → FailsAs
        (acting rules act (bot_at a frames stream ended first)) (first ++ sent.sent)
        a.keeping.incoming.patience stage.quiet_run fault
    each faults.Link begun first frames stream ended = part begun first
    each faults.NoMemory begun first frames stream ended = part begun first
    each other begun first frames stream ended = absurd begun

pub act_comes : {S : Type 0} (rules : SeerRules S) (act : Act) (a : Standing S) (seen : S)
    (bytes : List ℕ) (told : Option LinkTold) →
    ◌≡◌ {A = Asked S} (record { seen = seen; bytes = bytes })
    (ask_all rules.asks rules.sends (record { seen = a.seen; bytes = [] })
    (packets_of (rules.slot_at a.seen) (rules.window_at a.seen) a.keeping.number act)) →
    HasSent bytes a.told told (Ok tt) → HasCome (acting rules act) goes a (record {
      seen = seen;
      keeping = record a.keeping { number = number_past act a.keeping.number };
      told = told;
    })
act_comes {S} rules act a seen bytes told asked sent =
    let P : List ℕ → Type 0 = λ l. HasPassed a.told told [] [] l in
    acted_comes rules act a seen bytes told asked (subst P sent.came sent.exchanged)

-- the number of a click is nothing to the link
pub act_goes_on : (keeping : Keeping) (number : ℤ) (stage stage' : LinkStage) →
    CanGoOn keeping stage → stage' ≡ stage → CanGoOn (record keeping { number = number }) stage'
act_goes_on keeping number stage stage' goes_on same =
    rw same (record { goes = goes_on.goes; patient = goes_on.patient })

-- ---- a line

pub other_line : {S : Type 0} (rules : SeerRules S) (line : ℕ) (act : Act) →
    is_leaving act ≡ false → ((n : ℕ) → act ≡ acts.Wait n → ⊥) →
    ((cell : Cell) (state : ℕ) → act ≡ acts.Until cell state → ⊥) →
    ((cell : Cell) (state : ℕ) → act ≡ acts.Expect cell state → ⊥) →
    line_played rules line act ≡ acting rules act
other_line rules line (acts.Wait n) stays no_wait no_until no_expect = absurd (no_wait n refl)
other_line rules line (acts.Until cell state) stays no_wait no_until no_expect =
    absurd (no_until cell state refl)
other_line rules line (acts.Expect cell state) stays no_wait no_until no_expect =
    absurd (no_expect cell state refl)
other_line rules line acts.Leave stays no_wait no_until no_expect = absurd cc
other_line rules line act stays no_wait no_until no_expect = refl

pub wait_line : {S : Type 0} (rules : SeerRules S) (line : ℕ) (act : Act) (n : ℕ)
    (a b : Standing S) (stage : LinkStage) (result : Result (Unit {0}) BotFault) →
    act ≡ acts.Wait n → IsStep (packets_taken rules n) goes a b stage result →
    IsStep (line_played rules line act) goes a b stage result
wait_line {S} rules line act n a b stage result is step =
    let P : Act → Type 0 = λ it. IsStep (line_played rules line it) goes a b stage result in
    subst P (sym is) step

pub until_line : {S : Type 0} (rules : SeerRules S) (line : ℕ) (act : Act) (cell : Cell)
    (state : ℕ) (a b : Standing S) (stage : LinkStage) (result : Result (Unit {0}) BotFault) →
    act ≡ acts.Until cell state → IsStep (until rules cell state) goes a b stage result →
    IsStep (line_played rules line act) goes a b stage result
until_line {S} rules line act cell state a b stage result is step =
    let P : Act → Type 0 = λ it. IsStep (line_played rules line it) goes a b stage result in
    subst P (sym is) step

expect_step : {S : Type 0} (rules : SeerRules S) (line : ℕ) (cell : Cell) (want : ℕ)
    (a : Standing S) (stage : LinkStage) (result : Result (Unit {0}) BotFault) →
    CanGoOn a.keeping stage → ComparedAs line want (rules.block_at a.seen cell) result →
    IsStep (comparing rules line cell want) goes a a stage result
expect_step rules line cell want a stage (Ok done) goes_on is =
    (compared_comes rules line cell want a is, goes_on)
expect_step {S} rules line cell want a stage (Err fault) goes_on is =
    let P : BotFault → Type 0 = λ it. HasFailed (comparing rules line cell want) a a.told stage it
    in
    subst P (sym is.1) (compared_fails rules line cell want a stage goes_on is.0)

pub expect_line : {S : Type 0} (rules : SeerRules S) (line : ℕ) (act : Act) (cell : Cell)
    (want : ℕ) (a : Standing S) (stage : LinkStage) (result : Result (Unit {0}) BotFault) →
    act ≡ acts.Expect cell want → CanGoOn a.keeping stage →
    ComparedAs line want (rules.block_at a.seen cell) result →
    IsStep (line_played rules line act) goes a a stage result
expect_line {S} rules line act cell want a stage result is goes_on compared_ =
    let P : Act → Type 0 = λ it. IsStep (line_played rules line it) goes a a stage result in
    subst P (sym is) (expect_step rules line cell want a stage result goes_on compared_)

-- ---- lines

pub line_comes : {S : Type 0} (rules : SeerRules S) {line : Line} {lines left_ : List Line}
    {a b : Standing S} → left_ ≡ line ∷ lines →
    HasCome (line_played rules line.number line.act) goes a b →
    HasCome (lines_played rules left_) (lines_played rules lines) a b
unfolding lines_played
line_comes rules {line} {lines} {a} {b} is one =
    let P : List Line → Type 0 = λ l. HasCome (lines_played rules l) (lines_played rules lines) a b
    in
    subst P (sym is) (then_come (line_played rules line.number line.act)
    (lines_played rules lines) a b one)

pub line_fails : {S : Type 0} (rules : SeerRules S) {line : Line} {lines left_ : List Line}
    {a : Standing S} {told : Option LinkTold} {stage : LinkStage} {fault : BotFault} →
    left_ ≡ line ∷ lines →
    HasFailed (line_played rules line.number line.act) a told stage fault →
    HasFailed (lines_played rules left_) a told stage fault
unfolding lines_played
line_fails rules {line} {lines} {a} {told} {stage} {fault} is one =
    let P : List Line → Type 0 = λ l. HasFailed (lines_played rules l) a told stage fault in
    subst P (sym is) (then_fail (line_played rules line.number line.act)
    (lines_played rules lines) a told stage fault (lines_keep rules lines) one)

pub line_leaves : {S : Type 0} (rules : SeerRules S) {line : Line} {lines left_ : List Line}
    {a : Standing S} → left_ ≡ line ∷ lines → is_leaving line.act ≡ true →
    HasCome (lines_played rules left_) left_off a a
unfolding lines_played
line_leaves {S} rules {line} {lines} {left_} {a} is leaves = come_same (lines_played rules left_)
    left_off a (λ bot same. rw is (leaving line.act bot leaves))
  where
    leaving : (act : Act) (bot : Bot S) → is_leaving act ≡ true →
        then_play (line_played rules line.number act bot) (lines_played rules lines) ≡ left_off bot
    leaving acts.Leave bot leaves = refl
    leaving act bot leaves = absurd cc

pub no_line : {S : Type 0} (rules : SeerRules S) {left_ : List Line} {a : Standing S} →
    left_ ≡ [] → HasCome (lines_played rules left_) left_off a a
unfolding lines_played
no_line rules {left_} {a} is =
    come_same (lines_played rules left_) left_off a (λ bot same. rw is refl)
