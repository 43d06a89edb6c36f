-- Bytes that come in one piece come to what they come to one by one.
use Rattle.std.proofs.Common.{◌≡◌, ℕ, ◌<◌, ◌≤◌, true, List, [], ◌∷◌, ◌++◌, length, map, refl}
use Rattle.std.proofs.Common.{sym, subst, ap, ◌∙◌, append_assoc, arith, inl, inr}
use Rattle.std.specs.Prelude.{◌⊎◌, zero, suc, Option, Some, None, option_map}
use Rattle.std.specs.List.{AllByRecursion, fold}
use Rattle.std.proofs.lemmas.List.{append-nil}
use Rattle.std.proofs.lemmas.List.Concat.{flat_map-append}
use Rattle.std.proofs.lemmas.Bool.Decides.{nat_tests}
use Rattle.mc_bytes.specs.Reading.{IsBytes}
use Rattle.mc_frame.specs.Kept.{joined}
use Rattle.mc_model.specs.declared.cause.Cause.{Cause}
use Rattle.mc_model.specs.declared.stage.Stage.{Stage}
use Rattle.mc_model.specs.declared.stage.Stage.TheVariants as stages
use Rattle.mc_model.specs.Packets.{Sent, bytes_of, frame_of}
use Rattle.mc_model.specs.Link.{Link}
use Rattle.mc_model.specs.Stages.{is_closed}
use Rattle.mc_model.specs.Step.{on_bytes, still}
use Rattle.mc_model.specs.World.{Seat, Turn, World}
use Rattle.mc_model.proofs.Maps.Options.{not_both}
use Rattle.mc_laws.specs.Pieces.{IsFull, SameTurn, emptied, in_pieces, taken}
use Rattle.mc_laws.proofs.Cutting.Pieces.{pieces_same, waits_on}
use Rattle.mc_laws.proofs.Cutting.Reads.{bytes_closed, same_back}
use Rattle.mc_words.specs.declared.bad_input.InputFault.{InputFault}
use Rattle.mc_words.specs.declared.bad_input.InputFault.TheVariants as faults
use Rattle.mc_text.specs.Passes.{Breaks, Passes, SendsPart}
use Rattle.mc_text.proofs.Passing.{breaks_two, passes_none, passes_two}
use Rattle.mc_events.specs.Asking.{stage_in}
use Rattle.mc_events.specs.Served.{ServerValue}
use Rattle.mc_events.specs.Stands.{Stands}
use Rattle.mc_status.specs.StatusText.{Exchange, first_exchange, hex_line, receives, sent_lines}
use Rattle.mc_status.specs.StatusText.{session_fault}
use Rattle.mc_status.specs.Playing.{Asks, AsksAt, HasSeat, IsAnswered, Meets, most_at}
use Rattle.mc_status.proofs.Seats.{Gets, first_asks, first_seat, first_sits, receives_gets}
use Rattle.mc_status.proofs.Seats.{sits_same}
use Rattle.mc_status.proofs.Answered.{Answered, Goes, bytes_answered, goes_on}

-- ---- one by one

-- after a fault nothing is received
pub fault_stays : (x : Exchange) (kind : InputFault) (bytes : List ℕ) → x.fault ≡ Some kind →
    fold receives x bytes ≡ x
fault_stays x kind [] is = refl
fault_stays x kind (b ∷ bytes) is = grind (arith, nat_tests, fault_stays x kind bytes is)

-- each byte alone
abbrev singles : List ℕ → List (List ℕ)
singles bytes = map (λ (b : ℕ). b ∷ []) bytes

singles_joined : (bytes : List ℕ) → joined (singles bytes) ≡ bytes
singles_joined [] = refl
singles_joined (b ∷ bytes) = ap (λ (t : List ℕ). b ∷ t) (singles_joined bytes)

one_byte : (b : ℕ) (bytes : List ℕ) → IsBytes (b ∷ bytes) → IsBytes (b ∷ [])
one_byte b bytes are zero = are 0
one_byte b bytes are (suc i) = omega arith

singles_bytes : (bytes : List ℕ) → IsBytes bytes → AllByRecursion IsBytes (singles bytes)
singles_bytes [] are = tt
singles_bytes (b ∷ bytes) are =
    (one_byte b bytes are, singles_bytes bytes (λ i. are (suc i)))

-- where it asks it was not closed since it was owed too much
not_full : (stage : Stage) (cause : Option Cause) (l : Link) → l.stage ≡ stage →
    l.cause ≡ cause → AsksAt stage cause → ¬ IsFull l
not_full stages.Closed cause l at why asks full = asks (sym why ∙ full.cause)
not_full stages.Hand cause l at why asks full =
    not_both (is_closed l.stage) full.closed (ap is_closed at)
not_full stages.Status cause l at why asks full =
    not_both (is_closed l.stage) full.closed (ap is_closed at)
not_full stages.Login cause l at why asks full =
    not_both (is_closed l.stage) full.closed (ap is_closed at)
not_full other cause l at why asks full = asks

-- one that is closed hands out nothing, and stays as it is
closed_pieces : (most : ℕ) (s : Seat) (bytes : List ℕ) → Asks most s →
    is_closed s.link.stage ≡ true → IsBytes bytes →
    SameTurn (still s) (in_pieces 0 s (singles bytes))
closed_pieces most s bytes asks closed are =
    let whole : List ℕ = joined (singles bytes) in
    let shut = bytes_closed 0 s whole closed in
    let same = pieces_same 0 (singles bytes) s asks.owed asks.waits (singles_bytes bytes are)
    (subst (λ (t : Turn). ¬ IsFull t.seat.link) (sym shut) (not_full s.link.stage s.link.cause
    s.link refl refl asks.stage)) in
    let as_it_is : taken (on_bytes 0 s whole) ≡ still s =
    ap taken shut ∙ (λ i. still (record s {
      link = record s.link { owed = sym asks.owed i };
    })) in
    subst (λ (t : Turn). SameTurn t (in_pieces 0 s (singles bytes))) as_it_is same

-- what an exchange came to in a turn
record Comes (x y : Exchange) (t : Turn) : Type 0 where
  gets : Gets y t.seat
  text : y.text ≡ x.text ++ sent_lines t.handed

comes_same : (x y : Exchange) (t u : Turn) → Comes x y t → SameTurn t u → Comes x y u
comes_same x y t u c same = record {
  gets = record {
    sits = sits_same y.world t.seat u.seat c.gets.sits same.seat;
    fault = c.gets.fault ∙ ap (λ (l : Link). session_fault l.stage l.cause) same.seat.link;
  };
  text = c.text ∙ ap (λ (ps : List Sent). x.text ++ sent_lines ps) same.handed;
}

nothing_comes : (x : Exchange) (s : Seat) → Gets x s → Comes x x (still s)
nothing_comes x s h = record { gets = h; text = sym (append-nil x.text) }

sent_both : (ps qs : List Sent) → sent_lines (ps ++ qs) ≡ sent_lines ps ++ sent_lines qs
sent_both ps qs = flat_map-append (λ (p : Sent). hex_line (frame_of p)) ps qs

-- where something is wrong it is closed, or wants to log in
wrong_over : (stage : Stage) (cause : Option Cause) (kind : InputFault) → AsksAt stage cause →
    session_fault stage cause ≡ Some kind → (is_closed stage ≡ true) ⊎ (stage ≡ stages.Login)
wrong_over stages.Hand cause kind asks is =
    absurd (let e = sym (ap (session_fault stages.Hand) asks) ∙ is in cc)
wrong_over stages.Status cause kind asks is =
    absurd (let e = sym (ap (session_fault stages.Status) asks) ∙ is in cc)
wrong_over stages.Closed cause kind asks is = inl refl
wrong_over stages.Login cause kind asks is = inr refl
wrong_over other cause kind asks is = absurd asks

module _ (most : ℕ) (some : most ≤ 50) where
  -- it asks still, once all was taken
  next_asks : (s : Seat) (n : ℕ) (bytes : List ℕ) → Asks most s → IsBytes bytes →
      Answered most n s (on_bytes 0 s bytes) → Asks most (emptied (on_bytes 0 s bytes).seat)
  next_asks s n bytes asks are a = record {
    game = a.game;
    stage = a.stage;
    owed = refl;
    waits = waits_on 0 s bytes asks.waits are;
  }

  -- a byte, and then the others
  byte_comes : (b : ℕ) (bytes : List ℕ) (x : Exchange) (s : Seat) → Gets x s → Asks most s →
      Goes s.link.stage (b ∷ bytes) → IsBytes (b ∷ bytes) → ((y : Exchange) (v : Seat) →
      Gets y v → Asks most v → Goes v.link.stage bytes →
      Comes y (fold receives y bytes) (in_pieces 0 v (singles bytes))) →
      (o : Option InputFault) → x.fault ≡ o →
      Comes x (fold receives x (b ∷ bytes)) (in_pieces 0 s (singles (b ∷ bytes)))
  byte_comes b bytes x s h asks goes are later (Some kind) is =
      elim (wrong_over s.link.stage s.link.cause kind asks.stage (sym h.fault ∙ is)) [
        | inl closed ↦ subst (λ (y : Exchange). Comes x y (in_pieces 0 s (singles (b ∷ bytes))))
            (sym (fault_stays x kind (b ∷ bytes) is))
            (comes_same x x (still s) (in_pieces 0 s (singles (b ∷ bytes)))
            (nothing_comes x s h) (closed_pieces most s (b ∷ bytes) asks closed are))
        | inr at_login ↦ absurd (none_more (subst (λ (at : Stage). Goes at (b ∷ bytes)) at_login
            goes))
      ]
    where
      none_more : length (b ∷ bytes) ≤ 0 → ⊥
      none_more few = omega (arith, few)
  byte_comes b bytes x s h asks goes are later None fine =
      let t = on_bytes 0 s (b ∷ []) in
      let byte = one_byte b bytes are in
      let first = receives_gets x s b h fine in
      let a = bytes_answered most some s b [] asks (first_goes s.link.stage goes) (omega arith)
      byte in
      let next = later (receives x b) (emptied t.seat) first.0
      (next_asks s 1 (b ∷ []) asks byte a)
      (goes_on s.link.stage t.seat.link.stage b bytes goes a.past) in
      let more : List Sent = (in_pieces 0 (emptied t.seat) (singles bytes)).handed in
      record {
        gets = next.gets;
        text = next.text ∙ ap (λ (l : List ℕ). l ++ sent_lines more) first.1
            ∙ append_assoc x.text (sent_lines t.handed) (sent_lines more)
            ∙ ap (λ (l : List ℕ). x.text ++ l) (sym (sent_both t.handed more));
      }
    where
      first_goes : (stage : Stage) → Goes stage (b ∷ bytes) → Goes stage (b ∷ [])
      first_goes stages.Hand goes = omega arith
      first_goes stages.Status goes = tt
      first_goes stages.Closed goes = tt
      first_goes other goes = absurd (omega (arith, goes))

  one_by_one : (bytes : List ℕ) (x : Exchange) (s : Seat) → Gets x s → Asks most s →
      Goes s.link.stage bytes → IsBytes bytes →
      Comes x (fold receives x bytes) (in_pieces 0 s (singles bytes))
  one_by_one [] x s h asks goes are = nothing_comes x s h
  one_by_one (b ∷ bytes) x s h asks goes are = byte_comes b bytes x s h asks goes are
      (λ y v g a go. one_by_one bytes y v g a go (λ i. are (suc i))) x.fault refl

  -- ---- in one piece

  module _ (s : Seat) (b : ℕ) (bytes : List ℕ) (asks : Asks most s)
      (goes : Goes s.link.stage (b ∷ bytes)) (few : length (b ∷ bytes) ≤ 65536)
      (are : IsBytes (b ∷ bytes)) where
    abbrev whole : Turn
    whole = on_bytes 0 s (b ∷ bytes)

    answered : Answered most (length (b ∷ bytes)) s whole
    answered = bytes_answered most some s b bytes asks goes few are

    pub piece_answered : IsAnswered whole
    piece_answered = record {
      owed = answered.owed ∙ ap (λ (o : List ℕ). o ++ bytes_of whole.handed) asks.owed;
      small = answered.small;
    }

    pub piece_asks : Asks most (emptied whole.seat)
    piece_asks = next_asks s (length (b ∷ bytes)) (b ∷ bytes) asks are answered

    piece_comes : (x : Exchange) → Gets x s → Comes x (fold receives x (b ∷ bytes)) (taken whole)
    piece_comes x h =
        let same = pieces_same 0 (singles (b ∷ bytes)) s asks.owed asks.waits
        (singles_bytes (b ∷ bytes) are)
        (subst (λ (t : List ℕ). ¬ IsFull (on_bytes 0 s t).seat.link)
        (sym (singles_joined (b ∷ bytes)))
        (not_full whole.seat.link.stage whole.seat.link.cause whole.seat.link refl refl
        answered.stage)) in
        comes_same x (fold receives x (b ∷ bytes)) (in_pieces 0 s (singles (b ∷ bytes)))
        (taken whole)
        (one_by_one (b ∷ bytes) x s h asks goes are)
        (same_back _ _ (subst (λ (t : List ℕ). SameTurn (taken (on_bytes 0 s t))
        (in_pieces 0 s (singles (b ∷ bytes)))) (singles_joined (b ∷ bytes)) same))

    -- the server stands for the exchange then
    pub piece_meets : (start held held' : Option (List ℕ)) (server : ServerValue)
        (old new : List ℕ) (x : Exchange) → Gets x s → Passes start held [] x.text old [] →
        HasSeat server (emptied whole.seat) →
        Passes held held' old (sent_lines whole.handed) new [] →
        Meets most start held' server new (fold receives x (b ∷ bytes))
    piece_meets start held held' server old new x h before has_ puts =
        let c = piece_comes x h in
        record {
          seat = emptied whole.seat;
          has = has_;
          exchange = c.gets.sits;
          asks = piece_asks;
          fault = c.gets.fault;
          passes = subst (λ (l : List ℕ). Passes start held' [] l new []) (sym c.text)
              (passes_two start held held' [] x.text old (sent_lines whole.handed) new before
              puts);
        }

    -- or some first part of its text was written
    pub piece_stops : (start held held' : Option (List ℕ)) (old : List ℕ) (x : Exchange) →
        Gets x s → Passes start held [] x.text old [] →
        Breaks held held' old (sent_lines whole.handed) →
        SendsPart start held' (fold receives x (b ∷ bytes)).text
    piece_stops start held held' old x h before broke =
        let c = piece_comes x h in
        let part = breaks_two start held held' [] x.text old (sent_lines whole.handed) [] before
        broke in
        subst (SendsPart start held') (ap (λ (l : List ℕ). x.text ++ l)
        (append-nil (sent_lines whole.handed)) ∙ sym c.text) (part.len, part.wrote)

  -- ---- one that is over

  pub over_meets : (start held : Option (List ℕ)) (server : ServerValue) (lines : List ℕ)
      (x : Exchange) (bytes : List ℕ) → IsBytes bytes → (h : Meets most start held server lines x) →
      (is_closed h.seat.link.stage ≡ true) ⊎ (h.seat.link.stage ≡ stages.Login) →
      Meets most start held server lines (fold receives x bytes)
  over_meets start held server lines x bytes are h (inr at_login) =
      subst (Meets most start held server lines) (sym (fault_stays x faults.Login bytes
      (h.fault ∙ ap (λ (at : Stage). session_fault at h.seat.link.cause) at_login))) h
  over_meets start held server lines x bytes are h (inl closed) =
      let c = comes_same x (fold receives x bytes) (in_pieces 0 h.seat (singles bytes))
      (still h.seat)
      (one_by_one bytes x h.seat (record { sits = h.exchange; fault = h.fault }) h.asks
      (closed_goes h.seat.link.stage closed) are)
      (same_back _ _ (closed_pieces most h.seat bytes h.asks closed are)) in
      record {
        seat = h.seat;
        has = h.has;
        exchange = c.gets.sits;
        asks = h.asks;
        fault = c.gets.fault;
        passes = subst (λ (l : List ℕ). Passes start held [] l lines [])
            (sym (c.text ∙ append-nil x.text)) h.passes;
      }
    where
      closed_goes : (stage : Stage) → is_closed stage ≡ true → Goes stage bytes
      closed_goes stages.Closed closed = tt
      closed_goes other closed = absurd (let e = closed in cc)

-- ---- the next piece of a line

-- what may come at once
at_room : (stage : Stage) (xs : List ℕ) → length xs ≤ most_at (Some stage) →
    Goes stage xs × (length xs ≤ 65536)
at_room stages.Hand xs few = (few, omega (arith, few))
at_room stages.Status xs few = (tt, omega (arith, few))
at_room stages.Closed xs few = (tt, omega (arith, few))
at_room other xs few = (few, omega (arith, few))

no_room : (stage : Stage) (cause : Option Cause) → AsksAt stage cause →
    most_at (Some stage) ≡ 0 → (is_closed stage ≡ true) ⊎ (stage ≡ stages.Login)
no_room stages.Hand cause asks none = absurd (omega (arith, none))
no_room stages.Status cause asks none = absurd (omega (arith, none))
no_room stages.Closed cause asks none = inl refl
no_room stages.Login cause asks none = inr refl
no_room other cause asks none = absurd asks

module _ (most : ℕ) (some : most ≤ 50) (start held : Option (List ℕ)) (server : ServerValue)
    (lines : List ℕ) (x : Exchange) (m : Meets most start held server lines x) (room : ℕ)
    (is : (w : World) → Stands server w → room ≡ most_at (stage_in 0 w)) where
  gets : Gets x m.seat
  gets = record { sits = m.exchange; fault = m.fault }

  room_is : room ≡ most_at (Some m.seat.link.stage)
  room_is = is m.has.world m.has.stands
      ∙ ap (λ (o : Option Link). most_at (option_map (λ (l : Link). l.stage) o))
      m.has.sits.link

  -- nothing more is heard
  pub none_meets : (bytes : List ℕ) → room ≡ 0 → IsBytes bytes →
      Meets most start held server lines (fold receives x bytes)
  none_meets bytes none are = over_meets most some start held server lines x bytes are m
      (no_room m.seat.link.stage m.seat.link.cause m.asks.stage (sym room_is ∙ none))

  -- a piece came
  pub next_meets : (piece : List ℕ) → 0 < length piece → length piece ≤ room → IsBytes piece →
      (held' : Option (List ℕ)) (next : ServerValue) (new : List ℕ) →
      ((s : Seat) → HasSeat server s → IsAnswered (on_bytes 0 s piece) →
      HasSeat next (emptied (on_bytes 0 s piece).seat)
      × Passes held held' lines (sent_lines (on_bytes 0 s piece).handed) new []) →
      Meets most start held' next new (fold receives x piece)
  next_meets [] long few are held' next new plays = absurd (omega (arith, long))
  next_meets (b ∷ bytes) long few are held' next new plays =
      let at = at_room m.seat.link.stage (b ∷ bytes) (omega (arith, few, room_is)) in
      let p = plays m.seat m.has
      (piece_answered most some m.seat b bytes m.asks at.0 at.1 are) in
      piece_meets most some m.seat b bytes m.asks at.0 at.1 are start held held' next lines new x
      gets m.passes p.0 p.1

  -- or in part
  pub next_stops : (piece : List ℕ) → 0 < length piece → length piece ≤ room → IsBytes piece →
      (held' : Option (List ℕ)) → ((s : Seat) → HasSeat server s →
      IsAnswered (on_bytes 0 s piece) →
      Breaks held held' lines (sent_lines (on_bytes 0 s piece).handed)) →
      SendsPart start held' (fold receives x piece).text
  next_stops [] long few are held' plays = absurd (omega (arith, long))
  next_stops (b ∷ bytes) long few are held' plays =
      let at = at_room m.seat.link.stage (b ∷ bytes) (omega (arith, few, room_is)) in
      piece_stops most some m.seat b bytes m.asks at.0 at.1 are start held held' lines x gets
      m.passes (plays m.seat m.has
      (piece_answered most some m.seat b bytes m.asks at.0 at.1 are))

-- ---- the first exchange

pub first_meets : (most : ℕ) (start : Option (List ℕ)) (server : ServerValue) (lines : List ℕ) →
    lines ≡ [] → Stands server (first_exchange most).world →
    Meets most start start server lines (first_exchange most)
first_meets most start server lines none stands = record {
  seat = first_seat most;
  has = record {
    world = (first_exchange most).world;
    stands = stands;
    sits = first_sits most;
  };
  exchange = first_sits most;
  asks = first_asks most;
  fault = refl;
  passes = subst (λ (l : List ℕ). Passes start start [] [] l []) (sym none)
      (passes_none start [] []);
}
