-- Laws of turns: each entry of their log is right, and at the end of each one nobody is owed
-- anything to whom no write stalled, and nobody is done.
use Rattle.std.proofs.Common.{◌≡◌, ℕ, List, [], ◌∷◌, ◌++◌, map, inl, inr, refl, sym, subst, ap, ◌∙◌}
use Rattle.std.proofs.Common.{arith}
use Rattle.std.proofs.lemmas.Bool.Decides.{nat_tests}
use Rattle.std.specs.Prelude.{◌⊎◌, true, false, Some}
use Rattle.std.specs.List.{Contains}
use Rattle.std.proofs.lemmas.List.Elements.{Contains-append_left, Contains-append_right}
use Rattle.std.specs.FinMap.{entries, entries_sorted, get, get-entries}
use Rattle.mc_wire.specs.declared.log.LogEntry.{LogEntry}
use Rattle.mc_wire.specs.declared.log.LogEntry.TheVariants.{Came, Stalled, Closed}
use Rattle.mc_model.specs.Step.{Event, came}
use Rattle.mc_model.specs.Run.{AreBytes, owed_in}
use Rattle.mc_model.specs.Log.{events_of, events_in, log_of, logged}
use Rattle.mc_model.specs.Turns.{Happens, AreTurns, AreWrites, IsTurn, IsWrite, done_in}
use Rattle.mc_model.specs.Link.{Link, is_done}
use Rattle.mc_model.specs.World.{World}
use Rattle.mc_laws.proofs.Serving.Logs.{events_more, AreRight, IsRight, logged_more, right_more}
use Rattle.mc_laws.proofs.Serving.Forgetting.{closed_left, closed_owed, closings_right, done_among}

-- ---- what happens and is written

happened_right : (w : World) (entry : LogEntry) → Happens entry → IsRight w entry
happened_right w entry happens = grind (arith, nat_tests)

written_right : (w : World) (entry : LogEntry) → IsWrite w entry → IsRight w entry
written_right w entry is = grind (arith, nat_tests)

writes_right : (writes : List LogEntry) (w : World) → AreWrites w writes → AreRight w writes
writes_right [] w are = tt
writes_right (write ∷ writes) w are =
    (written_right w write are.0, writes_right writes (logged w (write ∷ [])) are.1)

-- ---- a turn

-- the world after what happened and what was written, in which the closings are
abbrev pub written : (w : World) (turn : List LogEntry) → IsTurn w turn → World
written w turn t = logged w (t.event ∷ t.writes)

turn_ends : (w : World) (turn : List LogEntry) (t : IsTurn w turn) →
    logged w turn ≡ logged (written w turn t) (map Closed (done_in (written w turn t)))
turn_ends w turn t = ap (logged w) t.parts
    ∙ logged_more w (t.event ∷ t.writes) (map Closed (done_in (written w turn t)))

pub turn_right : (w : World) (turn : List LogEntry) → IsTurn w turn → AreRight w turn
turn_right w turn t =
    let v = written w turn t in
    subst (AreRight w) (sym t.parts)
    (right_more (t.event ∷ t.writes) (map Closed (done_in v)) w (
      happened_right w t.event t.happens,
      writes_right t.writes (logged w (t.event ∷ [])) t.are_writes,
    ) (closings_right (entries v.links) v (entries_sorted v.links)
    (λ k l here. get-entries v.links k ∙ here)))

pub turn_empties : (k : ℕ) (w : World) (turn : List LogEntry) → IsTurn w turn →
    (owed_in k (logged w turn) ≡ []) ⊎ Contains turn (Stalled k)
turn_empties k w turn t =
    let v = written w turn t in
    elim (t.served k) [
      | inl none ↦ inl (ap (λ (u : World). owed_in k u) (turn_ends w turn t)
          ∙ closed_owed k (done_in v) v none)
      | inr stalled ↦ inr (subst (λ (log : List LogEntry). Contains log (Stalled k)) (sym t.parts)
          (Contains-append_left (t.event ∷ t.writes) (map Closed (done_in v)) (Stalled k)
          (Contains-append_right (t.event ∷ []) t.writes (Stalled k) stalled)))
    ]

pub turn_closes : (k : ℕ) (l : Link) (w : World) (turn : List LogEntry) → IsTurn w turn →
    get (logged w turn).links k ≡ Some l → is_done l ≡ false
turn_closes k l w turn t there =
    let v = written w turn t in
    let was = closed_left k l (done_in v) v
    (subst (λ (u : World). get u.links k ≡ Some l) (turn_ends w turn t) there) in
    elim (is_done l) as (λ b. is_done l ≡ b → b ≡ false) [
      | true ↦ λ done. absurd (was.1 done (done_among k l (entries v.links)
          (sym (get-entries v.links k) ∙ was.0) done))
      | false ↦ λ waits. refl
    ] refl

-- ---- turns

pub turns_right : (turns : List (List LogEntry)) (w : World) → AreTurns w turns →
    AreRight w (log_of turns)
turns_right [] w are = tt
turns_right (turn ∷ turns) w are = right_more turn (log_of turns) w (turn_right w turn are.0)
    (turns_right turns (logged w turn) are.1)

-- each is a turn in the world that those before it left
pub turn_at : (before : List (List LogEntry)) (turn : List LogEntry)
    (later : List (List LogEntry)) (w : World) → AreTurns w (before ++ turn ∷ later) →
    IsTurn (logged w (log_of before)) turn
turn_at [] turn later w are = are.0
turn_at (first ∷ before) turn later w are =
    subst (λ (v : World). IsTurn v turn) (sym (logged_more w first (log_of before)))
    (turn_at before turn later (logged w first) are.1)

-- ---- what comes in turns is bytes

bytes_behind : (events later : List Event) → AreBytes events → AreBytes later →
    AreBytes (events ++ later)
bytes_behind [] later first second = second
bytes_behind (came k bytes ∷ events) later first second =
    (first.0, bytes_behind events later first.1 second)
bytes_behind (other ∷ events) later first second = bytes_behind events later first second

logs_behind : (log later : List LogEntry) → AreBytes (events_in log) →
    AreBytes (events_in later) → AreBytes (events_in (log ++ later))
logs_behind log later first second = grind (arith, nat_tests, events_more, bytes_behind)

happened_bytes : (entry : LogEntry) → Happens entry → AreBytes (events_of entry)
happened_bytes (Came k bytes) happens = (happens.1, tt)
happened_bytes other happens = tt

written_bytes : (w : World) (entry : LogEntry) → IsWrite w entry → AreBytes (events_of entry)
written_bytes w (Came k bytes) is = absurd is
written_bytes w other is = tt

writes_bytes : (writes : List LogEntry) (w : World) → AreWrites w writes →
    AreBytes (events_in writes)
writes_bytes [] w are = tt
writes_bytes (write ∷ writes) w are = bytes_behind (events_of write) (events_in writes)
    (written_bytes w write are.0) (writes_bytes writes (logged w (write ∷ [])) are.1)

closings_bytes : (ks : List ℕ) → AreBytes (events_in (map Closed ks))
closings_bytes [] = tt
closings_bytes (k ∷ ks) = closings_bytes ks

turn_bytes : (w : World) (turn : List LogEntry) → IsTurn w turn → AreBytes (events_in turn)
turn_bytes w turn t =
    let closings = map Closed (done_in (written w turn t)) in
    subst (λ (log : List LogEntry). AreBytes (events_in log)) (sym t.parts)
    (bytes_behind (events_of t.event) (events_in (t.writes ++ closings))
    (happened_bytes t.event t.happens)
    (logs_behind t.writes closings (writes_bytes t.writes (logged w (t.event ∷ [])) t.are_writes)
    (closings_bytes (done_in (written w turn t)))))

pub turns_are_bytes : (w : World) (turns : List (List LogEntry)) → AreTurns w turns →
    AreBytes (events_in (log_of turns))
turns_are_bytes w [] are = tt
turns_are_bytes w (turn ∷ turns) are = logs_behind turn (log_of turns) (turn_bytes w turn are.0)
    (turns_are_bytes (logged w turn) turns are.1)
