use Rattle.std.proofs.Common.{◌≡◌, ◌≢◌, ℕ, ◌+◌, ◌-◌, ◌≤◌, Option, None, Some, List, [], ◌∷◌, ◌++◌}
use Rattle.std.proofs.Common.{length, take, drop, min, refl, sym, ap, ◌∙◌, arith, append_assoc}
use Rattle.std.proofs.Common.{append-nil, ◌&&◌, Bool, true, false, Result, Ok, Err}
use Rattle.std.specs.Prelude.{IfOk, OnErr}
use Rattle.std.proofs.Math.Logic.{∥∥₁_map}
use Rattle.std.proofs.lemmas.List.{length-append, length-take, take_min, take-append-le}
use Rattle.std.proofs.lemmas.List.{flat_map_more}
use Rattle.std.proofs.Math.Seq.{drop-append_seam, take-append-add}
use Rattle.mc_wire.specs.declared.log.LogEntry.{LogEntry}
use Rattle.mc_wire.specs.declared.answers.Event.{Event}
use Rattle.mc_wire.specs.declared.answers.Pace.{Pace}
use Rattle.mc_wire.specs.declared.failed.Failed.{Failed}
use Rattle.mc_wire.specs.LobbyAnswers.{event_entry}
use Rattle.mc_wire.specs.LobbyTold.{LobbyTold, with_entries, with_pace, with_port}
use Rattle.mc_wire.specs.Becoming.{ToldBecomes, Logs}
use Rattle.mc_wire.specs.Stream.{Grows}
use Rattle.mc_wire.specs.Count.{Rose, StandsOrRises}
use Rattle.mc_wire.proofs.Counts.{StandsOrRises-Rose, StandsOrRises-trans}
use Rattle.mc_capture.specs.declared.tape_state.TapeState.{TapeState}
use Rattle.mc_capture.specs.declared.tape_state.TapeState.TheVariants as states
use Rattle.mc_capture.specs.Grammar.{capture_head}
use Rattle.mc_capture.specs.Tape.{TapeMark, Writes, WritesFrom, entry_bytes, head_behind, tape}
use Rattle.mc_capture.specs.declared.taped.Taped.{Taped}
use Rattle.mc_capture.specs.TapedView.{mark_of}
use Rattle.mc_capture.specs.TapeStart.{FaultsSince, IsTape, IsTapeOf, TapeStart, added, written}

-- How far a tape is over the calls of a taped lobby.

-- so many bytes were written as are there now
part_there : (n : ℕ) (xs ys all : List ℕ) → ys ≡ xs ++ take n all
    → ys ≡ xs ++ take (length ys - length xs) all
part_there n xs ys all is =
    let len : length ys ≡ length xs + min n (length all) =
    ap length is ∙ length-append xs (take n all) ∙ ap (λ m. length xs + m) (length-take n all) in
    let there : length ys - length xs ≡ min n (length all) = omega (arith, len) in
    is ∙ ap (λ zs. xs ++ zs) (sym (take_min n all) ∙ ap (λ m. take m all) (sym there))

-- they are a first part of a longer tape, too
part_longer : (xs ys all more : List ℕ) → ys ≡ xs ++ take (length ys - length xs) all
    → ys ≡ xs ++ take (length ys - length xs) (all ++ more)
part_longer xs ys all more is =
    let n : ℕ = length ys - length xs in
    let len : length ys ≡ length xs + min n (length all) =
    ap length is ∙ length-append xs (take n all) ∙ ap (λ m. length xs + m) (length-take n all) in
    let within : n ≤ length all = omega (arith, len) in
    is ∙ ap (λ zs. xs ++ zs) (sym (take-append-le n all more within))

-- what was told before a call that still tells
told_before : (old new : Option LobbyTold) (b : LobbyTold) (change : LobbyTold → LobbyTold)
    → ToldBecomes old new change
    → new ≡ Some b
    → (a : LobbyTold) × (old ≡ Some a) × (b ≡ change a)
told_before old None b change becomes is = absurd cc
told_before None (Some t) b change becomes is = absurd becomes
told_before (Some a) (Some t) b change becomes is =
    let same : t ≡ b = cc in
    (a, refl, sym same ∙ becomes)

-- what was held before a write of a sink that still tells
held_before : (old new : Option (List ℕ)) (ys bytes : List ℕ)
    → Grows old new bytes
    → new ≡ Some ys
    → (xs : List ℕ) × (old ≡ Some xs) × (ys ≡ xs ++ bytes)
held_before old None ys bytes grows is = absurd cc
held_before None (Some zs) ys bytes grows is = absurd grows
held_before (Some xs) (Some zs) ys bytes grows is =
    let same : zs ≡ ys = cc in
    (xs, refl, sym same ∙ grows)

-- a first part of more behind all
part_behind : (n : ℕ) (xs zs ys all bytes : List ℕ)
    → zs ≡ xs ++ all
    → ys ≡ zs ++ take n bytes
    → ys ≡ xs ++ take (length ys - length xs) (all ++ bytes)
part_behind n xs zs ys all bytes first grows = part_there (length all + n) xs ys (all ++ bytes)
    (grows ∙ ap (λ more. more ++ take n bytes) first ∙ append_assoc xs all (take n bytes)
    ∙ ap (λ more. xs ++ more) (sym (take-append-add all bytes n)))

-- more was written, all of it or a first part
more_written : (before after : TapeState) (old new : TapeMark) (all bytes xs ys : List ℕ)
    → WritesFrom before after old new bytes
    → (before ≡ states.Blank → all ≡ [])
    → after ≢ states.Blank
    → new.held ≡ Some ys
    → ((zs : List ℕ) → old.held ≡ Some zs → zs ≡ xs ++ written before all (length zs - length xs))
    → ys ≡ xs ++ written after (all ++ bytes) (length ys - length xs)
more_written before states.Blank old new all bytes xs ys writes fresh on held was =
    absurd (on refl)
more_written states.Failed states.Failed old new all bytes xs ys writes fresh on held was =
    part_longer xs ys all bytes (was ys (sym writes.0 ∙ held))
more_written states.Failed states.Written old new all bytes xs ys writes fresh on held was =
    absurd writes
more_written states.Blank states.Written old new all bytes xs ys writes fresh on held was =
    let (zs, is, grows) = held_before old.held new.held ys bytes writes.0 held in
    let first : zs ≡ xs ++ all = was zs is ∙ ap (λ more. xs ++ more) (sym (fresh refl)) in
    grows ∙ ap (λ more. more ++ bytes) first ∙ append_assoc xs all bytes
more_written states.Written states.Written old new all bytes xs ys writes fresh on held was =
    let (zs, is, grows) = held_before old.held new.held ys bytes writes.0 held in
    grows ∙ ap (λ more. more ++ bytes) (was zs is) ∙ append_assoc xs all bytes
more_written states.Blank states.Failed old new all bytes xs ys writes fresh on held was =
    let n : ℕ = writes.0.0 in
    let (zs, is, grows) = held_before old.held new.held ys (take n bytes) writes.0.1 held in
    let first : zs ≡ xs ++ all = was zs is ∙ ap (λ more. xs ++ more) (sym (fresh refl)) in
    part_behind n xs zs ys all bytes first grows
more_written states.Written states.Failed old new all bytes xs ys writes fresh on held was =
    let n : ℕ = writes.0.0 in
    let (zs, is, grows) = held_before old.held new.held ys (take n bytes) writes.0.1 held in
    part_behind n xs zs ys all bytes (was zs is) grows

-- a call that writes leaves no blank tape
not_blank : (before after : TapeState) (old new : TapeMark) (bytes : List ℕ)
    → WritesFrom before after old new bytes
    → before ≢ states.Blank
    → after ≢ states.Blank
not_blank states.Blank after old new bytes writes on = absurd (on refl)
not_blank states.Written states.Blank old new bytes writes on = absurd writes
not_blank states.Failed states.Blank old new bytes writes on = absurd writes
not_blank states.Written states.Written old new bytes writes on = λ e. absurd cc
not_blank states.Written states.Failed old new bytes writes on = λ e. absurd cc
not_blank states.Failed states.Written old new bytes writes on = λ e. absurd cc
not_blank states.Failed states.Failed old new bytes writes on = λ e. absurd cc

-- what was added to a log, with what a call adds
added_more : (a b c : LobbyTold) (more : List LogEntry)
    → b.log ≡ a.log ++ added a b
    → c.log ≡ b.log ++ more
    → (c.log ≡ a.log ++ added a c) × (added a c ≡ added a b ++ more)
added_more a b c more first second =
    let all : c.log ≡ a.log ++ (added a b ++ more) =
    second ∙ ap (λ log. log ++ more) first ∙ append_assoc a.log (added a b) more in
    let behind : added a c ≡ added a b ++ more =
    ap (drop (length a.log)) all ∙ drop-append_seam a.log (added a b ++ more) in
    (all ∙ ap (λ log. a.log ++ log) (sym behind), behind)

-- a sink that tells after a call told before
held_any : (before after : TapeState) (old new : TapeMark) (ys bytes : List ℕ)
    → WritesFrom before after old new bytes
    → after ≢ states.Blank
    → new.held ≡ Some ys
    → (zs : List ℕ) × (old.held ≡ Some zs)
held_any before states.Blank old new ys bytes writes on held = absurd (on refl)
held_any states.Failed states.Failed old new ys bytes writes on held = (ys, sym writes.0 ∙ held)
held_any states.Failed states.Written old new ys bytes writes on held = absurd writes
held_any states.Blank states.Written old new ys bytes writes on held =
    let (zs, is, grows) = held_before old.held new.held ys bytes writes.0 held in (zs, is)
held_any states.Written states.Written old new ys bytes writes on held =
    let (zs, is, grows) = held_before old.held new.held ys bytes writes.0 held in (zs, is)
held_any states.Blank states.Failed old new ys bytes writes on held =
    let (zs, is, grows) = held_before old.held new.held ys _ writes.0.1 held in (zs, is)
held_any states.Written states.Failed old new ys bytes writes on held =
    let (zs, is, grows) = held_before old.held new.held ys _ writes.0.1 held in (zs, is)

-- the bytes of which a first part is there: none of a blank tape
abbrev so_far : TapeState → List ℕ → List ℕ
so_far states.Blank bytes = []
so_far other bytes = bytes

written_so_far : (state : TapeState) (bytes : List ℕ) (count : ℕ)
    → written state bytes count ≡ written state (so_far state bytes) count
written_so_far states.Blank bytes count = refl
written_so_far states.Written bytes count = refl
written_so_far states.Failed bytes count = refl

none_so_far : (state : TapeState) (bytes : List ℕ) → state ≡ states.Blank
    → so_far state bytes ≡ []
none_so_far states.Blank bytes blank = refl
none_so_far states.Written bytes blank = absurd cc
none_so_far states.Failed bytes blank = absurd cc

-- a call that adds to the log and writes what the tape of that has more
tape_step : (start : TapeStart) (told told' : Option LobbyTold) (now now' : TapeMark)
    (change : LobbyTold → LobbyTold) (more : List LogEntry) (bytes : List ℕ)
    → IsTape start told now
    → ToldBecomes told told' change
    → ((t : LobbyTold) → (change t).log ≡ t.log ++ more)
    → Writes now now' bytes
    → now'.state ≢ states.Blank
    → ((log : List LogEntry) → (now.state ≡ states.Blank → log ≡ [])
    → so_far now.state (tape log) ++ bytes ≡ tape (log ++ more))
    → IsTape start told' now'
tape_step start told told' now now' change more bytes was becomes adds writes on grown a c xs ys
    first is held held' =
    let (b, is_b, same) = told_before told told' c change becomes is in
    let (zs, is_zs) = held_any now.state now'.state now now' ys bytes writes on held' in
    let (log, fresh, there) = was a b xs zs first is_b held is_zs in
    let (all, behind) = added_more a b c more log (ap (λ (t : LobbyTold). t.log) same ∙ adds b) in
    let bytes_are = grown (added a b) (λ blank. (fresh blank).0)
    ∙ ap tape (sym behind) in
    let tape_is = more_written now.state now'.state now now' (so_far now.state (tape (added a b)))
    bytes xs ys writes (none_so_far now.state (tape (added a b))) on held'
    (λ zs' is'. (was a b xs zs' first is_b held is').2
    ∙ ap (λ n. xs ++ n) (written_so_far now.state (tape (added a b)) (length zs' - length xs))) in (
      all,
      λ blank. absurd (on blank),
      tape_is ∙ ap (λ n. xs ++ written now'.state n (length ys - length xs)) bytes_are,
    )

entry_grown : (state : TapeState) (entry : LogEntry) (log : List LogEntry)
    → state ≢ states.Blank
    → so_far state (tape log) ++ entry_bytes entry ≡ tape (log ++ entry ∷ [])
entry_grown states.Blank entry log on = absurd (on refl)
entry_grown states.Written entry log on = flat_map_more entry_bytes capture_head log entry
entry_grown states.Failed entry log on = flat_map_more entry_bytes capture_head log entry

head_grown : (state : TapeState) (log : List LogEntry)
    → (state ≡ states.Blank → log ≡ [])
    → so_far state (tape log) ++ head_behind state ≡ tape (log ++ [])
head_grown states.Blank log fresh = rw (fresh refl) refl
head_grown states.Written log fresh = append-nil (tape log) ∙ ap tape (sym (append-nil log))
head_grown states.Failed log fresh = append-nil (tape log) ∙ ap tape (sym (append-nil log))

and_true : (heard listens : Bool) → (heard && listens) ≡ true → heard ≡ true
and_true true listens both = refl
and_true false listens both = both

-- a call that writes the record of what it adds to the log
pub tape_entry : (start : TapeStart) (told told' : Option LobbyTold) (now now' : TapeMark)
    (entry : LogEntry)
    (heard listens : Bool)
    → IsTape start told now
    → (heard ≡ true → now.state ≢ states.Blank)
    → (heard && listens) ≡ true
    → Logs told told' (entry ∷ [])
    → Writes now now' (entry_bytes entry)
    → IsTape start told' now'
tape_entry start told told' now now' entry heard listens was begun listening logs writes =
    let on : now.state ≢ states.Blank = begun (and_true heard listens listening) in
    tape_step start told told' now now' (with_entries (entry ∷ [])) (entry ∷ []) (entry_bytes entry)
    was logs (λ t. refl) writes (not_blank now.state now'.state now now' _ writes on)
    (λ log fresh. entry_grown now.state entry log on)

-- a call that listens
pub tape_head : (start : TapeStart) (told told' : Option LobbyTold) (now now' : TapeMark)
    (port : ℕ)
    → IsTape start told now
    → ToldBecomes told told' (with_port port)
    → Writes now now' (head_behind now.state)
    → now'.state ≢ states.Blank
    → IsTape start told' now'
tape_head start told told' now now' port was becomes writes on =
    tape_step start told told' now now' (with_port port) [] (head_behind now.state) was becomes
    (λ t. sym (append-nil t.log)) writes on (head_grown now.state)

same_tape : (a b c : LobbyTold) (state : TapeState) (xs ys : List ℕ)
    → c.log ≡ b.log
    → c.ports ≡ b.ports
    → IsTapeOf a b state xs ys
    → IsTapeOf a c state xs ys
same_tape a b c state xs ys same_log same_ports was = rw (same_log, same_ports) was

-- a call that tells the pace
pub tape_pace : (start : TapeStart) (told told' : Option LobbyTold) (now : TapeMark) (pace : Pace)
    → IsTape start told now
    → ToldBecomes told told' (with_pace pace)
    → IsTape start told' now
tape_pace start told told' now pace was becomes a c xs ys first is held held' =
    let (b, is_b, same) = told_before told told' c (with_pace pace) becomes is in
    same_tape a b c now.state xs ys (ap (λ (t : LobbyTold). t.log) same)
    (ap (λ (t : LobbyTold). t.ports) same) (was a b xs ys first is_b held held')

-- ---- the sink's faults

faults_from : (before after : TapeState) (start : TapeStart) (old new : TapeMark) (bytes : List ℕ)
    → WritesFrom before after old new bytes
    → (before ≡ states.Failed → Rose start.faults old.faults)
    → StandsOrRises start.faults old.faults
    → (after ≡ states.Failed → Rose start.faults new.faults)
    × StandsOrRises start.faults new.faults
faults_from states.Failed states.Failed start old new bytes writes rose stands =
    rw writes.1 (rose, stands)
faults_from states.Failed states.Written start old new bytes writes rose stands = absurd writes
faults_from states.Failed states.Blank start old new bytes writes rose stands = absurd writes
faults_from states.Blank states.Blank start old new bytes writes rose stands =
    rw writes.2 (λ e. absurd cc, stands)
faults_from states.Written states.Blank start old new bytes writes rose stands = absurd writes
faults_from states.Blank states.Written start old new bytes writes rose stands =
    (λ e. absurd cc, StandsOrRises-trans start.faults old.faults new.faults stands writes.1)
faults_from states.Written states.Written start old new bytes writes rose stands =
    (λ e. absurd cc, StandsOrRises-trans start.faults old.faults new.faults stands writes.1)
faults_from states.Blank states.Failed start old new bytes writes rose stands = (
  λ e. StandsOrRises-Rose start.faults old.faults new.faults stands writes.1,
  StandsOrRises-trans start.faults old.faults new.faults stands writes.2,
)
faults_from states.Written states.Failed start old new bytes writes rose stands = (
  λ e. StandsOrRises-Rose start.faults old.faults new.faults stands writes.1,
  StandsOrRises-trans start.faults old.faults new.faults stands writes.2,
)

pub faults_since : (start : TapeStart) (old new : TapeMark) (bytes : List ℕ)
    → ∥ FaultsSince start old ∥₁
    → Writes old new bytes
    → ∥ FaultsSince start new ∥₁
faults_since start old new bytes was writes = ∥∥₁_map was
    (λ h. faults_from old.state new.state start old new bytes writes h.0 h.1)

-- ---- a call that answers what comes next

pub tape_next : {L O : Type 0} (told : L → Option LobbyTold) (held : O → Option (List ℕ))
    (faults : O → ℕ) (start : TapeStart) (old new : Taped L O) (listens : Bool) (buf : List ℕ)
    (result : Result Event Failed)
    → IsTape start (told old.lobby.now) (mark_of held faults old)
    → (old.heard ≡ true → old.state ≢ states.Blank)
    → (old.heard && listens) ≡ true
    → IfOk result (λ event.
    Logs (told old.lobby.now) (told new.lobby.now) (event_entry event buf ∷ []))
    → IfOk result (λ event. Writes (mark_of held faults old) (mark_of held faults new)
    (entry_bytes (event_entry event buf)))
    → OnErr result (told new.lobby.now ≡ told old.lobby.now)
    → OnErr result ((new.out ≡ old.out) × (new.state ≡ old.state))
    → IsTape start (told new.lobby.now) (mark_of held faults new)
tape_next told held faults start old new listens buf (Ok event) was begun listening logs writes same
    unwritten = tape_entry start (told old.lobby.now) (told new.lobby.now)
    (mark_of held faults old) (mark_of held faults new) (event_entry event buf) old.heard listens
    was begun listening logs writes
tape_next told held faults start old new listens buf (Err failed) was begun listening logs writes
    same unwritten = rw (same, unwritten.0, unwritten.1) was

pub faults_next : {L O : Type 0} (held : O → Option (List ℕ)) (faults : O → ℕ) (start : TapeStart)
    (old new : Taped L O) (buf : List ℕ) (result : Result Event Failed)
    → ∥ FaultsSince start (mark_of held faults old) ∥₁
    → IfOk result (λ event. Writes (mark_of held faults old) (mark_of held faults new)
    (entry_bytes (event_entry event buf)))
    → OnErr result ((new.out ≡ old.out) × (new.state ≡ old.state))
    → ∥ FaultsSince start (mark_of held faults new) ∥₁
faults_next held faults start old new buf (Ok event) was writes unwritten =
    faults_since start (mark_of held faults old) (mark_of held faults new)
    (entry_bytes (event_entry event buf)) was writes
faults_next held faults start old new buf (Err failed) was writes unwritten =
    rw (unwritten.0, unwritten.1) was
