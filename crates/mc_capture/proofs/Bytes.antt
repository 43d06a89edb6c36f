-- Bytes of one way of a connection that are heard one after another are heard frame by frame.
use Rattle.std.proofs.Common.{◌≡◌, ℕ, ◌+◌, ◌<◌, List, [], ◌∷◌}
use Rattle.std.proofs.Common.{◌++◌, length, take, drop, refl, sym, subst}
use Rattle.std.proofs.Common.{ap, ◌∙◌, append_assoc, arith, Option, Some, None}
use Rattle.std.proofs.lemmas.List.{append-nil, length-append, take-append-drop}
use Rattle.mc_bytes.specs.Reading.{Field}
use Rattle.mc_frame.specs.declared.fault.FrameFault.{FrameFault}
use Rattle.mc_frame.specs.Frame.{SpellsFrame, frame_read}
use Rattle.mc_frame.specs.Cut.{IsPart, Ends}
use Rattle.mc_frame.specs.Held.{Splitting, nothing_held}
use Rattle.mc_frame.proofs.Cuts.{frame_some}
use Rattle.mc_frame.proofs.Stops.{nothing_part}
use Rattle.mc_capture.specs.declared.states.Way.{Way}
use Rattle.mc_capture.specs.declared.states.States.{States}
use Rattle.mc_capture.specs.FrameLines.{fault_line}
use Rattle.mc_capture.specs.Talks.{Hearing, on_byte, on_bytes, on_fault, on_frame, on_part, on_read}
use Rattle.mc_capture.specs.Talks.{then_heard}
use Rattle.mc_capture.specs.Hearings.{IsWaiting, from_front, heard_from, waiting_in}
use Rattle.mc_capture.proofs.Fronts.{WaitsAt, WaitsBefore, end_breaks, frame_waits, part_waits}
use Rattle.mc_capture.proofs.Fronts.{part_waits_before, whole_reads}

-- a way that is silent
abbrev silent : States → Hearing
silent states = record { states = states; waits = None }

-- ---- bytes behind others

pub heard_two : (k : ℕ) (way : Way) (now : Hearing) (xs ys : List ℕ)
    → on_bytes k way now (xs ++ ys)
    ≡ then_heard (on_bytes k way now xs) (λ next. on_bytes k way next ys)
heard_two k way now [] ys = refl
heard_two k way now (b ∷ xs) ys =
    let one = on_byte k way now.states now.waits b in
    let two = on_bytes k way one.1 xs in
    let three = on_bytes k way two.1 ys in
    ap (λ (t : List ℕ × Hearing). (one.0 ++ t.0, t.1)) (heard_two k way one.1 xs ys)
    ∙ ap (λ (t : List ℕ). (t, three.1)) (sym (append_assoc one.0 two.0 three.0))

pub stays_silent : (k : ℕ) (way : Way) (states : States) (bytes : List ℕ)
    → on_bytes k way (record { states = states; waits = None }) bytes
    ≡ ([], record { states = states; waits = None })
stays_silent k way states [] = refl
stays_silent k way states (b ∷ bytes) = stays_silent k way states bytes

-- ---- up to where reading gives something

pub byte_waits : (k : ℕ) (way : Way) (states : States) (bytes : List ℕ) (b : ℕ)
    → WaitsAt (bytes ++ b ∷ [])
    → on_byte k way states (Some bytes) b ≡ ([], heard_from states (bytes ++ b ∷ []))
byte_waits k way states bytes b w =
    ap (λ (r : Field (List ℕ)). on_read k way states (bytes ++ b ∷ []) r) w.reads
    ∙ ap (λ (f : Option FrameFault). on_part k way states (bytes ++ b ∷ []) f) w.none

heard_through : (k : ℕ) (way : Way) (states : States) (p : List ℕ) (b : ℕ) (q : List ℕ)
    → WaitsBefore (p ++ b ∷ q)
    → on_bytes k way (heard_from states p) (b ∷ q)
    ≡ on_read k way states (p ++ b ∷ q) (frame_read (p ++ b ∷ q))
heard_through k way states p b [] waits =
    let one = on_byte k way states (Some p) b in
    ap (λ (t : List ℕ). (t, one.1)) (append-nil one.0)
heard_through k way states p b (c ∷ q) waits =
    let regroup : (p ++ b ∷ []) ++ c ∷ q ≡ p ++ b ∷ c ∷ q = append_assoc p (b ∷ []) (c ∷ q) in
    let here = byte_waits k way states p b
    (waits (p ++ b ∷ []) (c ∷ q) (sym regroup) (omega arith)) in
    ap (λ (t : List ℕ × Hearing). then_heard t (λ next. on_bytes k way next (c ∷ q))) here
    ∙ heard_through k way states (p ++ b ∷ []) c q
    (λ front back parts some. waits front back (sym regroup ∙ parts) some)
    ∙ ap (λ (t : List ℕ). on_read k way states t (frame_read t)) regroup

pub from_first : (k : ℕ) (way : Way) (states : States) (bytes : List ℕ)
    → 0 < length bytes
    → WaitsBefore bytes
    → on_bytes k way (from_front states) bytes ≡ on_read k way states bytes (frame_read bytes)
from_first k way states [] some waits = absurd (omega (arith, some))
from_first k way states (b ∷ bytes) some waits = heard_through k way states [] b bytes waits

-- ---- a frame, a part of one, and a fault

pub frame_heard : (k : ℕ) (way : Way) (states : States) (payload bytes : List ℕ)
    → SpellsFrame payload bytes
    → on_bytes k way (from_front states) bytes ≡ on_frame k way states payload
frame_heard k way states payload bytes s =
    from_first k way states bytes (frame_some payload bytes s) (frame_waits payload bytes s)
    ∙ ap (λ (r : Field (List ℕ)). on_read k way states bytes r) (whole_reads payload bytes s)

pub part_heard : (k : ℕ) (way : Way) (states : States) (bytes : List ℕ)
    → IsPart bytes
    → on_bytes k way (from_front states) bytes ≡ ([], heard_from states bytes)
part_heard k way states [] part = refl
part_heard k way states (b ∷ bytes) part =
    let w = part_waits (b ∷ bytes) part in
    from_first k way states (b ∷ bytes) (omega arith) (part_waits_before (b ∷ bytes) part)
    ∙ ap (λ (r : Field (List ℕ)). on_read k way states (b ∷ bytes) r) w.reads
    ∙ ap (λ (f : Option FrameFault). on_part k way states (b ∷ bytes) f) w.none

pub fault_heard : (k : ℕ) (way : Way) (states : States) (count : ℕ) (bytes : List ℕ)
    (fault : FrameFault)
    → Ends count bytes (Some fault)
    → on_bytes k way (from_front states) bytes
    ≡ (fault_line k way ++ [], record { states = states; waits = None })
fault_heard k way states count bytes fault ends =
    let b = end_breaks count bytes fault ends in
    let front : on_bytes k way (from_front states) b.front ≡ on_fault k way states =
    from_first k way states b.front b.some b.waits
    ∙ ap (λ (r : Field (List ℕ)). on_read k way states b.front r) b.reads
    ∙ ap (λ (f : Option FrameFault). on_part k way states b.front f) b.is in
    ap (on_bytes k way (from_front states)) b.parts
    ∙ heard_two k way (from_front states) b.front b.after
    ∙ ap (λ (t : List ℕ × Hearing). then_heard t (λ next. on_bytes k way next b.after)) front
    ∙ ap (λ (t : List ℕ × Hearing). (fault_line k way ++ t.0, t.1))
    (stays_silent k way states b.after)

-- bytes behind a part that was heard
pub behind_part : (k : ℕ) (way : Way) (states : States) (held bytes : List ℕ)
    → IsPart held
    → on_bytes k way (from_front states) (held ++ bytes)
    ≡ on_bytes k way (heard_from states held) bytes
behind_part k way states held bytes part =
    heard_two k way (from_front states) held bytes
    ∙ ap (λ (t : List ℕ × Hearing). then_heard t (λ next. on_bytes k way next bytes))
    (part_heard k way states held part)

-- ---- what a step of a splitter comes to

-- the frame at the front of the held bytes, by what is heard after it
pub frame_first : (k : ℕ) (way : Way) (states : States) (payload held : List ℕ) (len : ℕ)
    (now : Hearing)
    → SpellsFrame payload (take len held)
    → (on_frame k way states payload).1 ≡ now
    → on_bytes k way (from_front states) held
    ≡ (
      (on_frame k way states payload).0 ++ (on_bytes k way now (drop len held)).0,
      (on_bytes k way now (drop len held)).1,
    )
frame_first k way states payload held len now s next =
    let split : held ≡ take len held ++ drop len held = sym (take-append-drop len held) in
    let frame = on_frame k way states payload in
    ap (on_bytes k way (from_front states)) split
    ∙ heard_two k way (from_front states) (take len held) (drop len held)
    ∙ ap (λ (t : List ℕ × Hearing). then_heard t (λ n. on_bytes k way n (drop len held)))
    (frame_heard k way states payload (take len held) s)
    ∙ ap (λ (n : Hearing). (
      frame.0 ++ (on_bytes k way n (drop len held)).0,
      (on_bytes k way n (drop len held)).1,
    )) next

-- a frame that ends its way
pub frame_last : (k : ℕ) (way : Way) (states later : States) (payload held : List ℕ) (len : ℕ)
    → SpellsFrame payload (take len held)
    → (on_frame k way states payload).1 ≡ record { states = later; waits = None }
    → on_bytes k way (from_front states) held
    ≡ ((on_frame k way states payload).0 ++ [], record { states = later; waits = None })
frame_last k way states later payload held len s next =
    frame_first k way states payload held len (record { states = later; waits = None }) s next
    ∙ ap (λ (t : List ℕ × Hearing). ((on_frame k way states payload).0 ++ t.0, t.1))
    (stays_silent k way later (drop len held))

pub frame_shorter : (payload held : List ℕ) (len : ℕ)
    → SpellsFrame payload (take len held)
    → length (drop len held) < length held
frame_shorter payload held len s =
    let some = frame_some payload (take len held) s in
    let all : length held ≡ length (take len held) + length (drop len held) =
    ap length (sym (take-append-drop len held))
    ∙ length-append (take len held) (drop len held) in
    omega (arith, some, all)

-- bytes that were fed, by what is heard after them
pub piece_first : (k : ℕ) (way : Way) (states : States) (held fed rest : List ℕ) (n : ℕ)
    (now : Hearing)
    → IsPart held
    → fed ≡ held ++ take n rest
    → (on_bytes k way (from_front states) fed).1 ≡ now
    → on_bytes k way (heard_from states held) rest
    ≡ (
      (on_bytes k way (from_front states) fed).0 ++ (on_bytes k way now (drop n rest)).0,
      (on_bytes k way now (drop n rest)).1,
    )
piece_first k way states held fed rest n now part is next =
    let split : rest ≡ take n rest ++ drop n rest = sym (take-append-drop n rest) in
    let first : on_bytes k way (heard_from states held) (take n rest)
    ≡ on_bytes k way (from_front states) fed =
    sym (behind_part k way states held (take n rest) part)
    ∙ ap (on_bytes k way (from_front states)) (sym is) in
    let all = on_bytes k way (from_front states) fed in
    ap (on_bytes k way (heard_from states held)) split
    ∙ heard_two k way (heard_from states held) (take n rest) (drop n rest)
    ∙ ap (λ (t : List ℕ × Hearing). then_heard t (λ m. on_bytes k way m (drop n rest))) first
    ∙ ap (λ (m : Hearing). (
      all.0 ++ (on_bytes k way m (drop n rest)).0,
      (on_bytes k way m (drop n rest)).1,
    )) next

-- bytes that end their way
pub piece_last : (k : ℕ) (way : Way) (states later : States) (held fed rest : List ℕ) (n : ℕ)
    → IsPart held
    → fed ≡ held ++ take n rest
    → (on_bytes k way (from_front states) fed).1 ≡ record { states = later; waits = None }
    → on_bytes k way (heard_from states held) rest
    ≡ ((on_bytes k way (from_front states) fed).0 ++ [], record { states = later; waits = None })
piece_last k way states later held fed rest n part is next =
    piece_first k way states held fed rest n (record { states = later; waits = None }) part is next
    ∙ ap (λ (t : List ℕ × Hearing). ((on_bytes k way (from_front states) fed).0 ++ t.0, t.1))
    (stays_silent k way later (drop n rest))

-- nothing is left
pub heard_over : (k : ℕ) (way : Way) (now : Hearing) (rest : List ℕ) → length rest ≡ 0
    → on_bytes k way now rest ≡ ([], now)
heard_over k way now [] none = refl
heard_over k way now (b ∷ rest) none = absurd (omega (arith, none))

-- ---- how it is kept

pub waiting_new : (s : Splitting) → s ≡ nothing_held → IsWaiting s
waiting_new s is =
    let P : Splitting → Type 0 = λ t. IsPart t.held in
    record { fine = ap (λ (t : Splitting). t.fault) is; part = subst P (sym is) nothing_part }

pub silent_heard : (k : ℕ) (way : Way) (states : States) (s : Option Splitting) (bytes : List ℕ)
    → s ≡ None
    → on_bytes k way (waiting_in states s) bytes ≡ ([], waiting_in states s)
silent_heard k way states s bytes none =
    ap (λ (t : Option Splitting). on_bytes k way (waiting_in states t) bytes) none
    ∙ stays_silent k way states bytes
    ∙ ap (λ (t : Option Splitting). ([], waiting_in states t)) (sym none)
