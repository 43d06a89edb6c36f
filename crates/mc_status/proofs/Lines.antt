-- Taking what is owed, and putting the frames of packets as lines.
use Rattle.std.proofs.Common.{◌≡◌, ℕ, ◌-◌, ◌<◌, List, [], ◌∷◌, ◌++◌, length, take, drop, Ok}
use Rattle.std.proofs.Common.{Err, refl, sym, subst, ap, ◌∙◌, append_assoc, arith}
use Rattle.std.specs.Prelude.{◌↔◌, Option}
use Rattle.std.specs.List.{AllByRecursion}
use Rattle.std.proofs.lemmas.List.{append-nil, drop_at, length-append, length-take-le, take_at}
use Rattle.std.proofs.lemmas.List.{nil_from_length, take-append-drop}
use Rattle.mc_bytes.specs.declared.fault.Stop.{Stop}
use Rattle.mc_bytes.specs.Reading.{Field, IsBytes}
use Rattle.mc_bytes.specs.CombineLaws.{ok_is}
use Rattle.mc_frame.specs.Frame.{SpellsFrame, frame_read}
use Rattle.mc_frame.specs.FrameLaws.{frame_again, frame_spelled}
use Rattle.mc_frame.proofs.Cuts.{frame_some}
use Rattle.mc_frame.proofs.Fronts.{read_front}
use Rattle.mc_model.specs.Link.{Link}
use Rattle.mc_model.specs.Packets.{Sent, bytes_of, frame_of}
use Rattle.mc_model.specs.Run.{owed_in, owed_of}
use Rattle.mc_model.specs.Step.{took, step}
use Rattle.mc_model.specs.World.{Seat, World}
use Rattle.mc_laws.specs.Pieces.{emptied}
use Rattle.mc_laws.proofs.Cutting.Room.{seat_owing}
use Rattle.mc_events.specs.Served.{ServerValue}
use Rattle.mc_events.specs.Stands.{Stands}
use Rattle.mc_text.specs.Passes.{Breaks, Passes}
use Rattle.mc_text.proofs.Passing.{breaks_next, passes_next, passes_none}
use Rattle.mc_status.specs.StatusText.{hex_line, sent_lines}
use Rattle.mc_status.specs.Playing.{HasSeat, IsSmall}
use Rattle.mc_status.proofs.Seats.{took_sits}

-- ---- what is owed

-- so much was taken, and so much is owed still
pub record IsTaking (s : Seat) (server : ServerValue) (old new : List ℕ) : Type 0 where
  pub rest : List ℕ
  pub has : HasSeat server (seat_owing rest s)
  pub parts : old ++ s.link.owed ≡ new ++ rest

pub taking_start : (s : Seat) (server : ServerValue) (old : List ℕ) → HasSeat server s →
    IsTaking s server old old
taking_start s server old has = record { rest = s.link.owed; has = has; parts = refl }

-- the front was taken
pub taking_next : (s : Seat) (server next : ServerValue) (old new front : List ℕ) →
    IsTaking s server old new →
    ((w : World) → Stands server w → take (length front) (owed_in 0 w) ≡ front) →
    ((w : World) → Stands server w → Stands next (step w (took 0 (length front))).world) →
    IsTaking s next old (new ++ front)
taking_next s server next old new front t first takes =
    let h = t.has in
    let n : ℕ = length front in
    let is : take n t.rest ≡ front =
    sym (ap (λ (o : Option Link). take n (owed_of o)) h.sits.link) ∙ first h.world h.stands in
    record {
      rest = drop n t.rest;
      has = record {
        world = (step h.world (took 0 n)).world;
        stands = takes h.world h.stands;
        sits = took_sits h.world (seat_owing t.rest s) n h.sits;
      };
      parts = t.parts ∙ ap (λ (l : List ℕ). new ++ l) (sym (take-append-drop n t.rest)
          ∙ ap (λ (l : List ℕ). l ++ drop n t.rest) is)
          ∙ sym (append_assoc new front (drop n t.rest));
    }

-- nothing is owed any more
pub taking_done : (s : Seat) (server : ServerValue) (old new front : List ℕ) →
    IsTaking s server old new → length front ≡ 0 →
    ((w : World) → Stands server w → (front ≡ []) ↔ (owed_in 0 w ≡ [])) →
    HasSeat server (emptied s) × (new ≡ old ++ s.link.owed)
taking_done s server old new front t none empty =
    let h = t.has in
    let is : t.rest ≡ [] = sym (ap owed_of h.sits.link)
    ∙ (empty h.world h.stands).0 (nil_from_length front none) in (
      subst (λ (l : List ℕ). HasSeat server (seat_owing l s)) is h,
      sym (t.parts ∙ ap (λ (l : List ℕ). new ++ l) is ∙ append-nil new),
    )

-- ---- the frame at the front

pub front_some : (bytes payload rest : List ℕ) → IsBytes bytes →
    frame_read bytes ≡ Ok (payload, rest) → 0 < length bytes - length rest
front_some bytes payload rest fits is =
    let f = read_front bytes payload rest fits is in
    let n : ℕ = length bytes - length rest in
    let some = frame_some payload (take n bytes) f.1 in
    let len = length-take-le n bytes (omega arith) in
    omega (arith, some, len)

again : (p : Sent) (more bytes : List ℕ) → (small : IsSmall p) → bytes ≡ frame_of p ++ more →
    frame_read bytes ≡ Ok (small.payload, more)
again p more bytes small is =
    ap frame_read (is ∙ ap (λ (l : List ℕ). l ++ more) small.spelled)
    ∙ frame_again small.payload small.fits more

pub front_len : (bytes payload rest : List ℕ) (p : Sent) (more : List ℕ) → IsSmall p →
    bytes ≡ frame_of p ++ more → frame_read bytes ≡ Ok (payload, rest) →
    length bytes - length rest ≡ length (frame_of p)
front_len bytes payload rest p more small is read =
    let same : (small.payload, more) ≡ (payload, rest) =
    ok_is Stop _ _ (sym (again p more bytes small is) ∙ read) in
    let after = ap (λ (x : List ℕ × List ℕ). length x.1) same in
    let all = ap length is in
    omega (arith, after, all, length-append (frame_of p) more)

pub front_read : (bytes more : List ℕ) (p : Sent) (stop : Stop) → IsSmall p →
    bytes ≡ frame_of p ++ more → frame_read bytes ≡ Err stop → ⊥
front_read bytes more p stop small is read =
    let clash : ◌≡◌ {A = Field (List ℕ)} (Ok (small.payload, more)) (Err stop) =
    sym (again p more bytes small is) ∙ read in
    cc

-- ---- lines

-- the lines of some first packets were put, and the frames of others are left
pub record IsPutting (held held' : Option (List ℕ)) (old new rest : List ℕ)
    (packets : List Sent) : Type 0 where
  pub later : List Sent
  pub small : AllByRecursion IsSmall later
  pub bytes : rest ≡ bytes_of later
  pub passes : Passes held held' old (sent_lines packets) new (sent_lines later)

pub putting_start : (held : Option (List ℕ)) (old frames : List ℕ) (packets : List Sent) →
    AllByRecursion IsSmall packets → frames ≡ bytes_of packets →
    IsPutting held held old old frames packets
putting_start held old frames packets small is = record {
  later = packets;
  small = small;
  bytes = is;
  passes = passes_none held old (sent_lines packets);
}

-- what is left begins with a frame
record Begins (rest : List ℕ) (later : List Sent) : Type 0 where
  packet : Sent
  behind : List Sent
  are : later ≡ packet ∷ behind
  small : IsSmall packet
  small_too : AllByRecursion IsSmall behind
  parts : rest ≡ frame_of packet ++ bytes_of behind

begins : (rest : List ℕ) (later : List Sent) → 0 < length rest → AllByRecursion IsSmall later →
    rest ≡ bytes_of later → Begins rest later
begins rest [] some small is = (let len = ap length is in absurd (omega (arith, some, len)))
begins rest (p ∷ later) some small is = record {
  packet = p;
  behind = later;
  are = refl;
  small = small.0;
  small_too = small.1;
  parts = is;
}

-- the line of its first packet was put, or not wholly
module _ (held middle held' : Option (List ℕ)) (old half rest line behind : List ℕ)
    (packets : List Sent) (some : 0 < length rest)
    (h : IsPutting held middle old half rest packets) (n : ℕ)
    (is : (p : Sent) (more : List ℕ) → IsSmall p → rest ≡ frame_of p ++ more →
    n ≡ length (frame_of p)) (front : line ≡ take n rest) (back : behind ≡ drop n rest) where
  first : Begins rest h.later
  first = begins rest h.later some h.small h.bytes

  long : length (frame_of first.packet) ≡ n
  long = sym (is first.packet (bytes_of first.behind) first.small first.parts)

  line_is : line ≡ frame_of first.packet
  line_is = front ∙ ap (take n) first.parts
      ∙ take_at (frame_of first.packet) (bytes_of first.behind) n long

  passes : Passes held middle old (sent_lines packets) half
      (hex_line line ++ sent_lines first.behind)
  passes = subst (λ (l : List ℕ). Passes held middle old (sent_lines packets) half
      (hex_line l ++ sent_lines first.behind)) (sym line_is)
      (subst (λ (ps : List Sent). Passes held middle old (sent_lines packets) half
      (sent_lines ps)) first.are h.passes)

  pub putting_next : (new : List ℕ) → Passes middle held' half (hex_line line) new [] →
      IsPutting held held' old new behind packets
  putting_next new put = record {
    later = first.behind;
    small = first.small_too;
    bytes = back ∙ ap (drop n) first.parts
        ∙ drop_at (frame_of first.packet) (bytes_of first.behind) n long;
    passes = passes_next held middle held' old (sent_lines packets) half (hex_line line) new
        (sent_lines first.behind) passes put;
  }

  pub putting_breaks : Breaks middle held' half (hex_line line) →
      Breaks held held' old (sent_lines packets)
  putting_breaks broke = breaks_next held middle held' old (sent_lines packets) half
      (hex_line line) (sent_lines first.behind) passes broke

-- no frame is left
pub putting_done : (held held' : Option (List ℕ)) (old new rest : List ℕ) (packets : List Sent) →
    IsPutting held held' old new rest packets → length rest ≡ 0 →
    Passes held held' old (sent_lines packets) new []
putting_done held held' old new rest packets h none =
    subst (λ (ps : List Sent). Passes held held' old (sent_lines packets) new (sent_lines ps))
    (no_packets h.later h.small (sym (ap length h.bytes) ∙ none)) h.passes
  where
    no_packets : (later : List Sent) → AllByRecursion IsSmall later →
        length (bytes_of later) ≡ 0 → later ≡ []
    no_packets [] small none = refl
    no_packets (p ∷ later) small none =
        let fits = small.0.fits in
        let some = frame_some small.0.payload (frame_of p)
        (subst (λ (l : List ℕ). SpellsFrame small.0.payload l) (sym small.0.spelled)
        (frame_spelled small.0.payload fits)) in
        absurd (omega (arith, some, none, length-append (frame_of p) (bytes_of later)))
