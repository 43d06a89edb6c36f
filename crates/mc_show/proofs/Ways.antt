-- What bytes of one way bring it to, and the world of its client: frame by frame, piece by piece.
use Rattle.std.proofs.Common.{◌≡◌, ℕ, List, [], ◌++◌, ◌∷◌, length, take, drop, refl, sym, subst}
use Rattle.std.proofs.Common.{ap, ◌∙◌, arith, Option, Some, None}
use Rattle.std.proofs.lemmas.List.{take-append-drop}
use Rattle.std.proofs.lemmas.List.Sums.{fold-append}
use Rattle.mc_bytes.specs.Reading.{Field}
use Rattle.mc_frame.specs.declared.fault.FrameFault.{FrameFault}
use Rattle.mc_frame.specs.Frame.{SpellsFrame}
use Rattle.mc_frame.specs.Cut.{Ends, IsPart}
use Rattle.mc_packets.specs.declared.down.Down.{Down}
use Rattle.mc_capture.specs.declared.states.States.{States}
use Rattle.mc_capture.specs.declared.states.Way.{Way}
use Rattle.mc_capture.specs.Hearings.{from_front, heard_from}
use Rattle.mc_capture.specs.Talks.{Hearing, on_bytes, on_part, on_read}
use Rattle.mc_capture.proofs.Bytes.{behind_part, frame_heard, from_first, heard_two}
use Rattle.mc_capture.proofs.Bytes.{part_heard, stays_silent}
use Rattle.mc_capture.proofs.Fronts.{Breaks, end_breaks}
use Rattle.mc_model.specs.Replica.{Replica, apply, replay}
use Rattle.mc_show.specs.Following.{Brings, FrameBrings}
use Rattle.mc_show.specs.PlayPackets.{heard_packets, read_packets}
use Rattle.mc_show.proofs.Packets.{packets_first, packets_frame, packets_part, packets_silent}
use Rattle.mc_show.proofs.Packets.{packets_two}

-- a way that is silent
abbrev silent : States → Hearing
silent states = record { states = states; waits = None }

-- a world that takes no packets
shows_none : (world : Replica) (packets : List Down) → packets ≡ [] → world ≡ replay world packets
shows_none world packets none = sym (ap (replay world) none)

pub brings_two : (way : Way) (now middle next : Hearing) (xs ys : List ℕ)
    (world half world' : Replica)
    → Brings way now xs middle world half
    → Brings way middle ys next half world'
    → Brings way now (xs ++ ys) next world world'
brings_two way now middle next xs ys world half world' a b = record {
  heard = λ k. ap (λ (t : List ℕ × Hearing). t.1) (heard_two k way now xs ys)
      ∙ ap (λ (m : Hearing). (on_bytes k way m ys).1) (a.heard k) ∙ b.heard k;
  shows = λ k.
      let first = heard_packets k way now xs in
      b.shows k
      ∙ ap (λ (w : Replica). replay w (heard_packets k way middle ys)) (a.shows k)
      ∙ sym (fold-append apply world first (heard_packets k way middle ys))
      ∙ ap (λ (m : Hearing). replay world (first ++ heard_packets k way m ys)) (sym (a.heard k))
      ∙ ap (replay world) (sym (packets_two k way now xs ys));
}

pub silent_brings : (way : Way) (states : States) (bytes : List ℕ) (world : Replica)
    → Brings way (silent states) bytes (silent states) world world
silent_brings way states bytes world = record {
  heard = λ k. ap (λ (t : List ℕ × Hearing). t.1) (stays_silent k way states bytes);
  shows = λ k. shows_none world _ (packets_silent k way states bytes);
}

pub over_brings : (way : Way) (now : Hearing) (bytes : List ℕ) (world : Replica)
    → length bytes ≡ 0
    → Brings way now bytes now world world
over_brings way now [] world none = record { heard = λ k. refl; shows = λ k. refl }
over_brings way now (b ∷ bytes) world none = absurd (omega (arith, none))

-- ---- what stands at the front

pub part_brings : (way : Way) (states : States) (bytes : List ℕ) (world : Replica)
    → IsPart bytes
    → Brings way (from_front states) bytes (heard_from states bytes) world world
part_brings way states bytes world part = record {
  heard = λ k. ap (λ (t : List ℕ × Hearing). t.1) (part_heard k way states bytes part);
  shows = λ k. shows_none world _ (packets_part k way states bytes part);
}

-- the first bytes that show a fault
break_brings : (way : Way) (states : States) (bytes : List ℕ) (world : Replica) (b : Breaks bytes)
    → Brings way (from_front states) b.front (silent states) world world
break_brings way states bytes world b = record {
  heard = λ k. ap (λ (t : List ℕ × Hearing). t.1)
      (from_first k way states b.front b.some b.waits
      ∙ ap (λ (r : Field (List ℕ)). on_read k way states b.front r) b.reads
      ∙ ap (λ (f : Option FrameFault). on_part k way states b.front f) b.is);
  shows = λ k. shows_none world _ (packets_first k way states b.front b.some b.waits
      ∙ ap (λ (r : Field (List ℕ)). read_packets way states r) b.reads);
}

pub fault_brings : (way : Way) (states : States) (count : ℕ) (bytes : List ℕ)
    (fault : FrameFault) (world : Replica)
    → Ends count bytes (Some fault)
    → Brings way (from_front states) bytes (silent states) world world
fault_brings way states count bytes fault world ends =
    let b = end_breaks count bytes fault ends in
    let P : List ℕ → Type 0 = λ t. Brings way (from_front states) t (silent states) world world in
    subst P (sym b.parts)
    (brings_two way (from_front states) (silent states) (silent states) b.front b.after
    world world world (break_brings way states bytes world b)
    (silent_brings way states b.after world))

first_brings : (way : Way) (states : States) (payload bytes : List ℕ) (now : Hearing)
    (world world' : Replica)
    → SpellsFrame payload bytes
    → FrameBrings way states payload now world world'
    → Brings way (from_front states) bytes now world world'
first_brings way states payload bytes now world world' s f = record {
  heard = λ k. ap (λ (t : List ℕ × Hearing). t.1) (frame_heard k way states payload bytes s)
      ∙ f.heard k;
  shows = λ k. f.shows ∙ ap (replay world) (sym (packets_frame k way states payload bytes s));
}

-- a frame, and what is held behind it
pub frame_brings : (way : Way) (states : States) (payload held : List ℕ) (len : ℕ)
    (now next : Hearing) (world half world' : Replica)
    → SpellsFrame payload (take len held)
    → FrameBrings way states payload now world half
    → Brings way now (drop len held) next half world'
    → Brings way (from_front states) held next world world'
frame_brings way states payload held len now next world half world' s f b =
    let P : List ℕ → Type 0 = λ t. Brings way (from_front states) t next world world' in
    subst P (take-append-drop len held)
    (brings_two way (from_front states) now next (take len held) (drop len held) world half world'
    (first_brings way states payload (take len held) now world half s f) b)

-- bytes behind a part of a frame
behind_brings : (way : Way) (states : States) (held bytes : List ℕ) (now : Hearing)
    (world world' : Replica)
    → IsPart held
    → Brings way (from_front states) (held ++ bytes) now world world'
    → Brings way (heard_from states held) bytes now world world'
behind_brings way states held bytes now world world' part b = record {
  heard = λ k. sym (ap (λ (t : List ℕ × Hearing). t.1) (behind_part k way states held bytes part))
      ∙ b.heard k;
  shows = λ k. b.shows k ∙ ap (replay world)
      (packets_two k way (from_front states) held bytes
      ∙ ap (λ (ps : List Down). ps
      ++ heard_packets k way (on_bytes k way (from_front states) held).1 bytes)
      (packets_part k way states held part)
      ∙ ap (λ (t : List ℕ × Hearing). heard_packets k way t.1 bytes)
      (part_heard k way states held part));
}

-- bytes that were fed, and those behind them
pub piece_brings : (way : Way) (states : States) (held fed rest : List ℕ) (n : ℕ)
    (now next : Hearing) (world half world' : Replica)
    → IsPart held
    → fed ≡ held ++ take n rest
    → Brings way (from_front states) fed now world half
    → Brings way now (drop n rest) next half world'
    → Brings way (heard_from states held) rest next world world'
piece_brings way states held fed rest n now next world half world' part is a b =
    let P : List ℕ → Type 0 = λ t. Brings way (heard_from states held) t next world world' in
    let Q : List ℕ → Type 0 = λ t. Brings way (from_front states) t now world half in
    subst P (take-append-drop n rest)
    (brings_two way (heard_from states held) now next (take n rest) (drop n rest) world half world'
    (behind_brings way states held (take n rest) now world half part (subst Q is a)) b)
