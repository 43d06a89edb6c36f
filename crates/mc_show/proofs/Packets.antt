-- The packets of play of bytes that are heard one after another are those of the frames.
use Rattle.std.proofs.Common.{◌≡◌, ℕ, ◌<◌, List, [], ◌∷◌, ◌++◌, length, refl, sym}
use Rattle.std.proofs.Common.{ap, ◌∙◌, append_assoc, arith, Option, Some, None, Ok, Err}
use Rattle.std.proofs.lemmas.List.{append-nil}
use Rattle.mc_bytes.specs.Reading.{Field}
use Rattle.mc_frame.specs.Frame.{SpellsFrame, frame_read}
use Rattle.mc_frame.specs.Cut.{IsPart}
use Rattle.mc_frame.proofs.Cuts.{frame_some}
use Rattle.mc_packets.specs.declared.down.Down.{Down}
use Rattle.mc_capture.specs.declared.states.States.{States}
use Rattle.mc_capture.specs.declared.states.Way.{Way}
use Rattle.mc_capture.specs.declared.states.Way.TheVariants.{Up}
use Rattle.mc_capture.specs.Frames.{state_of}
use Rattle.mc_capture.specs.Hearings.{from_front, heard_from}
use Rattle.mc_capture.specs.Talks.{Hearing, on_byte, on_bytes}
use Rattle.mc_capture.proofs.Bytes.{byte_waits}
use Rattle.mc_capture.proofs.Fronts.{WaitsAt, WaitsBefore, frame_waits, part_waits}
use Rattle.mc_capture.proofs.Fronts.{part_waits_before, whole_reads}
use Rattle.mc_show.specs.PlayPackets.{byte_packets, frame_packets, heard_packets, read_packets}

-- bytes behind others
pub packets_two : (k : ℕ) (way : Way) (now : Hearing) (xs ys : List ℕ)
    → heard_packets k way now (xs ++ ys)
    ≡ heard_packets k way now xs ++ heard_packets k way (on_bytes k way now xs).1 ys
packets_two k way now [] ys = refl
packets_two k way now (b ∷ xs) ys =
    let one = byte_packets way now.states now.waits b in
    let next = (on_byte k way now.states now.waits b).1 in
    ap (λ (ps : List Down). one ++ ps) (packets_two k way next xs ys)
    ∙ sym (append_assoc one (heard_packets k way next xs)
    (heard_packets k way (on_bytes k way next xs).1 ys))

pub packets_silent : (k : ℕ) (way : Way) (states : States) (bytes : List ℕ)
    → heard_packets k way (record { states = states; waits = None }) bytes ≡ []
packets_silent k way states [] = refl
packets_silent k way states (b ∷ bytes) = packets_silent k way states bytes

-- what a client sends has none
frame_up : (states : States) (frame : List ℕ) → frame_packets Up (state_of Up states) frame ≡ []
unfolding frame_packets
frame_up states frame = refl

read_up : (states : States) (read : Field (List ℕ)) → read_packets Up states read ≡ []
read_up states (Ok x) = frame_up states x.0
read_up states (Err stop) = refl

byte_up : (states : States) (waits : Option (List ℕ)) (b : ℕ)
    → byte_packets Up states waits b ≡ []
byte_up states None b = refl
byte_up states (Some bytes) b = read_up states (frame_read (bytes ++ b ∷ []))

pub packets_up : (k : ℕ) (now : Hearing) (bytes : List ℕ) → heard_packets k Up now bytes ≡ []
packets_up k now [] = refl
packets_up k now (b ∷ bytes) =
    let next = (on_byte k Up now.states now.waits b).1 in
    ap (λ (ps : List Down). ps ++ heard_packets k Up next bytes)
    (byte_up now.states now.waits b)
    ∙ packets_up k next bytes

-- ---- up to where reading gives something

byte_none : (way : Way) (states : States) (bytes : List ℕ) (b : ℕ)
    → WaitsAt (bytes ++ b ∷ [])
    → byte_packets way states (Some bytes) b ≡ []
byte_none way states bytes b w = ap (λ (r : Field (List ℕ)). read_packets way states r) w.reads

packets_through : (k : ℕ) (way : Way) (states : States) (p : List ℕ) (b : ℕ) (q : List ℕ)
    → WaitsBefore (p ++ b ∷ q)
    → heard_packets k way (heard_from states p) (b ∷ q)
    ≡ read_packets way states (frame_read (p ++ b ∷ q))
packets_through k way states p b [] waits = append-nil (byte_packets way states (Some p) b)
packets_through k way states p b (c ∷ q) waits =
    let regroup : (p ++ b ∷ []) ++ c ∷ q ≡ p ++ b ∷ c ∷ q = append_assoc p (b ∷ []) (c ∷ q) in
    let here = waits (p ++ b ∷ []) (c ∷ q) (sym regroup) (omega arith) in
    ap (λ (ps : List Down). ps
    ++ heard_packets k way (on_byte k way states (Some p) b).1 (c ∷ q))
    (byte_none way states p b here)
    ∙ ap (λ (t : List ℕ × Hearing). heard_packets k way t.1 (c ∷ q))
    (byte_waits k way states p b here)
    ∙ packets_through k way states (p ++ b ∷ []) c q
    (λ front back parts some. waits front back (sym regroup ∙ parts) some)
    ∙ ap (λ (t : List ℕ). read_packets way states (frame_read t)) regroup

pub packets_first : (k : ℕ) (way : Way) (states : States) (bytes : List ℕ)
    → 0 < length bytes
    → WaitsBefore bytes
    → heard_packets k way (from_front states) bytes
    ≡ read_packets way states (frame_read bytes)
packets_first k way states [] some waits = absurd (omega (arith, some))
packets_first k way states (b ∷ bytes) some waits = packets_through k way states [] b bytes waits

-- ---- a frame, and a part of one

pub packets_frame : (k : ℕ) (way : Way) (states : States) (payload bytes : List ℕ)
    → SpellsFrame payload bytes
    → heard_packets k way (from_front states) bytes
    ≡ frame_packets way (state_of way states) payload
packets_frame k way states payload bytes s =
    packets_first k way states bytes (frame_some payload bytes s) (frame_waits payload bytes s)
    ∙ ap (λ (r : Field (List ℕ)). read_packets way states r) (whole_reads payload bytes s)

pub packets_part : (k : ℕ) (way : Way) (states : States) (bytes : List ℕ)
    → IsPart bytes
    → heard_packets k way (from_front states) bytes ≡ []
packets_part k way states [] part = refl
packets_part k way states (b ∷ bytes) part =
    packets_first k way states (b ∷ bytes) (omega arith) (part_waits_before (b ∷ bytes) part)
    ∙ ap (λ (r : Field (List ℕ)). read_packets way states r) (part_waits (b ∷ bytes) part).reads
