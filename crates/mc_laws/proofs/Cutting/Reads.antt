-- What bytes of one connection come to, by the frames of their cut and the fault behind them; and
-- that in two pieces they come to the same.
use Rattle.std.proofs.Common.{◌≡◌, ℕ, Bool, true, false, List, [], ◌∷◌, ◌++◌, refl}
use Rattle.std.proofs.Common.{sym, subst, ap, ◌∙◌, append_assoc}
use Rattle.std.specs.Prelude.{Option, Some, None, if◌then◌else◌}
use Rattle.std.proofs.lemmas.List.{append-nil}
use Rattle.mc_bytes.specs.Reading.{IsBytes}
use Rattle.mc_frame.specs.declared.fault.FrameFault.{FrameFault}
use Rattle.mc_frame.specs.Cut.{Cut}
use Rattle.mc_model.specs.declared.cause.Cause.TheVariants as causes
use Rattle.mc_model.specs.Cutting.{cut_of}
use Rattle.mc_model.specs.Packets.{Sent}
use Rattle.mc_model.specs.Stages.{is_closed}
use Rattle.mc_model.specs.Link.{Link}
use Rattle.mc_model.specs.Step.{after, disconnect_for, on_bytes, on_fault, on_frame}
use Rattle.mc_model.specs.Step.{on_frames, still}
use Rattle.mc_model.specs.Talk.{farewell}
use Rattle.mc_model.specs.World.{Seat, Turn, Unread}
use Rattle.mc_model.proofs.FitsBytes.{bytes_joined}
use Rattle.mc_model.proofs.Maps.Options.{not_both}
use Rattle.mc_laws.specs.Pieces.{SameSeat, SameTurn}
use Rattle.mc_laws.proofs.Walk.Each.{disconnect_closes}
use Rattle.mc_laws.proofs.Apart.BadFrames.{elsewhere, frames_elsewhere}
use Rattle.mc_laws.proofs.Cutting.Cuts.{IsBehind, behind_fault, count_after, cut_in_two, cut_on}
use Rattle.mc_laws.proofs.Cutting.Cuts.{same_count}

-- ---- one that is closed

pub frame_closed : (k : ℕ) (s : Seat) (frame : List ℕ) → is_closed s.link.stage ≡ true →
    on_frame k s frame ≡ still s
unfolding on_frame
frame_closed k s frame closed = rw closed refl

pub frames_closed : (k : ℕ) (s : Seat) (frames : List (List ℕ)) → is_closed s.link.stage ≡ true →
    on_frames k s frames ≡ still s
frames_closed k s [] closed = refl
frames_closed k s (frame ∷ frames) closed =
    ap (λ (t : Turn). after t (λ (v : Seat). on_frames k v frames)) (frame_closed k s frame closed)
    ∙ frames_closed k s frames closed

pub fault_closed : (k : ℕ) (s : Seat) (fault : Option FrameFault) →
    is_closed s.link.stage ≡ true → on_fault k s fault ≡ still s
fault_closed k s None closed = refl
fault_closed k s (Some fault) closed = rw closed refl

pub bytes_closed : (k : ℕ) (s : Seat) (bytes : List ℕ) → is_closed s.link.stage ≡ true →
    on_bytes k s bytes ≡ still s
unfolding on_bytes
bytes_closed k s bytes closed = rw closed refl

-- a fault closes
fault_closes : (k : ℕ) (s : Seat) (fault : FrameFault) →
    is_closed (on_fault k s (Some fault)).seat.link.stage ≡ true
fault_closes k s fault = step (is_closed s.link.stage) refl
  where
    step : (b : Bool) → is_closed s.link.stage ≡ b → is_closed (if b then still s
        else disconnect_for k s (causes.Frame fault)).seat.link.stage ≡ true
    step true t = t
    step false t = disconnect_closes s.link (causes.Frame fault)
        (farewell s.link.stage (causes.Frame fault))

-- ---- frames, and a fault behind them

abbrev pub done : ℕ → Seat → List (List ℕ) → Option FrameFault → Turn
done k s frames fault = after (on_frames k s frames) (λ (t : Seat). on_fault k t fault)

pub done_closed : (k : ℕ) (s : Seat) (frames : List (List ℕ)) (fault : Option FrameFault) →
    is_closed s.link.stage ≡ true → done k s frames fault ≡ still s
done_closed k s frames fault closed =
    ap (λ (t : Turn). after t (λ (v : Seat). on_fault k v fault)) (frames_closed k s frames closed)
    ∙ fault_closed k s fault closed

-- what is not read is carried along
fault_elsewhere : (k : ℕ) (s : Seat) (u : Unread) (fault : Option FrameFault) →
    on_fault k (record s { unread = u }) fault ≡ elsewhere u (on_fault k s fault)
fault_elsewhere k s u None = refl
fault_elsewhere k s u (Some fault) = elim (is_closed s.link.stage) as (λ b.
    (if b then still (record s { unread = u })
    else disconnect_for k (record s { unread = u }) (causes.Frame fault))
    ≡ elsewhere u (if b then still s else disconnect_for k s (causes.Frame fault))) [
      | true ↦ refl
      | false ↦ refl
    ]

done_elsewhere : (k : ℕ) (s : Seat) (u : Unread) (frames : List (List ℕ))
    (fault : Option FrameFault) →
    done k (record s { unread = u }) frames fault ≡ elsewhere u (done k s frames fault)
done_elsewhere k s u frames fault =
    ap (λ (t : Turn). after t (λ (v : Seat). on_fault k v fault)) (frames_elsewhere k frames s u)
    ∙ ap (λ (t : Turn). record {
      seat = t.seat;
      handed = (on_frames k s frames).handed ++ t.handed;
    }) (fault_elsewhere k (on_frames k s frames).seat u fault)

-- one turn after another after another
after_after : (t : Turn) (f g : Seat → Turn) →
    after (after t f) g ≡ after t (λ (s : Seat). after (f s) g)
after_after t f g = λ i. record {
  seat = (g (f t.seat).seat).seat;
  handed = append_assoc t.handed (f t.seat).handed (g (f t.seat).seat).handed i;
}

frames_both : (k : ℕ) (frames more : List (List ℕ)) (s : Seat) →
    on_frames k s (frames ++ more) ≡ after (on_frames k s frames) (λ (t : Seat). on_frames k t more)
frames_both k [] more s = refl
frames_both k (frame ∷ frames) more s =
    let first = on_frame k s frame in
    ap (λ (t : Turn). record { seat = t.seat; handed = first.handed ++ t.handed })
    (frames_both k frames more first.seat)
    ∙ sym (after_after first (λ (t : Seat). on_frames k t frames)
    (λ (t : Seat). on_frames k t more))

done_both : (k : ℕ) (s : Seat) (frames more : List (List ℕ)) (fault : Option FrameFault) →
    done k s (frames ++ more) fault
    ≡ after (on_frames k s frames) (λ (t : Seat). done k t more fault)
done_both k s frames more fault =
    ap (λ (t : Turn). after t (λ (v : Seat). on_fault k v fault)) (frames_both k frames more s)
    ∙ after_after (on_frames k s frames) (λ (t : Seat). on_frames k t more)
    (λ (t : Seat). on_fault k t fault)

-- ---- bytes

-- what is left of them
abbrev pub left_of : Seat → List ℕ → Unread
left_of s bytes = record {
  rest = (cut_of s.unread.before (s.unread.rest ++ bytes)).rest;
  before = count_after s.unread.before (s.unread.rest ++ bytes)
      (cut_of s.unread.before (s.unread.rest ++ bytes));
}

abbrev pub read : ℕ → Seat → List ℕ → Turn
read k s bytes = elsewhere (left_of s bytes)
    (done k s (cut_of s.unread.before (s.unread.rest ++ bytes)).frames
    (cut_of s.unread.before (s.unread.rest ++ bytes)).fault)

pub bytes_open : (k : ℕ) (s : Seat) (bytes : List ℕ) → is_closed s.link.stage ≡ false →
    on_bytes k s bytes ≡ read k s bytes
unfolding on_bytes
bytes_open k s bytes open_ =
    let cut = cut_of s.unread.before (s.unread.rest ++ bytes) in
    rw open_ (done_elsewhere k s (left_of s bytes) cut.frames cut.fault)

-- ---- turns that are the same but for what is not read of one that is closed

pub same_seat : (s : Seat) → SameSeat s s
same_seat s = record { game = refl; link = refl; unread = λ open_. refl }

pub same_turn : (t u : Turn) → t ≡ u → SameTurn t u
same_turn t u is = subst (λ (v : Turn). SameTurn t v) is
    (record { handed = refl; seat = same_seat t.seat })

pub same_next : (t u v : Turn) → SameTurn t u → SameTurn u v → SameTurn t v
same_next t u v a b = record {
  handed = a.handed ∙ b.handed;
  seat = record {
    game = a.seat.game ∙ b.seat.game;
    link = a.seat.link ∙ b.seat.link;
    unread = λ open_. a.seat.unread open_ ∙ b.seat.unread
        (subst (λ (l : Link). is_closed l.stage ≡ false) a.seat.link open_);
  };
}

pub same_back : (t u : Turn) → SameTurn t u → SameTurn u t
same_back t u a = record {
  handed = sym a.handed;
  seat = record {
    game = sym a.seat.game;
    link = sym a.seat.link;
    unread = λ open_. sym (a.seat.unread (subst (λ (l : Link). is_closed l.stage ≡ false)
        (sym a.seat.link) open_));
  };
}

pub after_same : (t u : Turn) (f g : Seat → Turn) → SameTurn t u →
    SameTurn (f t.seat) (g u.seat) → SameTurn (after t f) (after u g)
after_same t u f g a b = record {
  handed = ap (λ (ps : List Sent). ps ++ (f t.seat).handed) a.handed
      ∙ ap (λ (ps : List Sent). u.handed ++ ps) b.handed;
  seat = b.seat;
}

-- bytes of seats that are the same come to the same
pub bytes_same : (k : ℕ) (s v : Seat) (bytes : List ℕ) → SameSeat s v →
    SameTurn (on_bytes k s bytes) (on_bytes k v bytes)
bytes_same k s v bytes a = step (is_closed s.link.stage) refl
  where
    step : (b : Bool) → is_closed s.link.stage ≡ b →
        SameTurn (on_bytes k s bytes) (on_bytes k v bytes)
    step true t =
        let shut = subst (λ (l : Link). is_closed l.stage ≡ true) a.link t in
        let one = bytes_closed k s bytes t in
        let two = bytes_closed k v bytes shut in
        subst (λ (x : Turn). SameTurn x (on_bytes k v bytes)) (sym one)
        (subst (λ (y : Turn). SameTurn (still s) y) (sym two) (record {
          handed = refl;
          seat = a;
        }))
    step false t = same_turn (on_bytes k s bytes) (on_bytes k v bytes)
        (λ i. on_bytes k (record {
          game = a.game i;
          link = a.link i;
          unread = a.unread t i;
        }) bytes)

pub bytes_read : (k : ℕ) (s : Seat) (bytes : List ℕ) →
    SameTurn (on_bytes k s bytes) (read k s bytes)
bytes_read k s bytes = step (is_closed s.link.stage) refl
  where
    cut : Cut
    cut = cut_of s.unread.before (s.unread.rest ++ bytes)

    step : (b : Bool) → is_closed s.link.stage ≡ b →
        SameTurn (on_bytes k s bytes) (read k s bytes)
    step true t = subst (λ (x : Turn). SameTurn x (read k s bytes))
        (sym (bytes_closed k s bytes t))
        (subst (λ (y : Turn). SameTurn (still s) (elsewhere (left_of s bytes) y))
        (sym (done_closed k s cut.frames cut.fault t)) (record {
          handed = refl;
          seat = record {
            game = refl;
            link = refl;
            unread = λ open_. absurd (not_both (is_closed s.link.stage) t open_);
          };
        }))
    step false t = same_turn (on_bytes k s bytes) (read k s bytes) (bytes_open k s bytes t)

-- ---- in two pieces

-- a fault that was met is not met again
once : (k : ℕ) (p : Turn) (fault : Option FrameFault) (c : Cut) → IsBehind fault c →
    after p (λ (t : Seat). done k t c.frames c.fault)
    ≡ after (after p (λ (t : Seat). on_fault k t fault))
    (λ (t : Seat). done k t c.frames c.fault)
once k p None c is = λ i. record {
  seat = (done k p.seat c.frames c.fault).seat;
  handed = sym (append-nil p.handed) i ++ (done k p.seat c.frames c.fault).handed;
}
once k p (Some fault) c is =
    let q = on_fault k p.seat (Some fault) in
    let handed : List Sent = p.handed ++ q.handed in
    let again = fault_closed k q.seat (Some fault) (fault_closes k p.seat fault) in
    rw (is.0, is.1) ((λ i. record { seat = q.seat; handed = sym (append-nil handed) i })
    ∙ ap (λ (t : Turn). record { seat = t.seat; handed = handed ++ t.handed }) (sym again))

pub read_in_two : (k : ℕ) (s : Seat) (bytes more : List ℕ) → IsBytes s.unread.rest →
    IsBytes bytes → IsBytes more →
    read k s (bytes ++ more) ≡ after (read k s bytes) (λ (t : Seat). read k t more)
read_in_two k s bytes more fits came_ come =
    let n = s.unread.before in
    let all : List ℕ = s.unread.rest ++ bytes in
    let are = bytes_joined s.unread.rest bytes fits came_ in
    let first = cut_of n all in
    let second = cut_on n all more in
    let begun = done k s first.frames first.fault in
    let whole = after begun (λ (t : Seat). done k t second.frames second.fault) in
    let at : List ℕ → Turn = λ t. elsewhere
    (record { rest = (cut_of n t).rest; before = count_after n t (cut_of n t) })
    (done k s (cut_of n t).frames (cut_of n t).fault) in
    let by : Cut → Turn = λ c. elsewhere
    (record { rest = c.rest; before = count_after n (all ++ more) c })
    (done k s c.frames c.fault) in
    let left : ℕ → Unread = λ m. record { rest = second.rest; before = m } in
    let last : ℕ = count_after (count_after n all first) (first.rest ++ more) second in
    ap at (sym (append_assoc s.unread.rest bytes more))
    ∙ ap by (cut_in_two n all more are come)
    ∙ ap (elsewhere (left (count_after n (all ++ more) second)))
    (done_both k s first.frames second.frames second.fault
    ∙ once k (on_frames k s first.frames) first.fault second (behind_fault n all more are come))
    ∙ ap (λ (m : ℕ). elsewhere (left m) whole) (sym (same_count n all more are come))
    ∙ sym (ap (λ (t : Turn). record {
      seat = record t.seat { unread = left last };
      handed = begun.handed ++ t.handed;
    }) (done_elsewhere k begun.seat (left_of s bytes) second.frames second.fault))

pub bytes_in_two : (k : ℕ) (s : Seat) (bytes more : List ℕ) → IsBytes s.unread.rest →
    IsBytes bytes → IsBytes more →
    SameTurn (on_bytes k s (bytes ++ more))
    (after (on_bytes k s bytes) (λ (t : Seat). on_bytes k t more))
bytes_in_two k s bytes more fits came_ come =
    let first = read k s bytes in
    let one = bytes_read k s bytes in
    let second = same_next (on_bytes k (on_bytes k s bytes).seat more)
    (on_bytes k first.seat more) (read k first.seat more)
    (bytes_same k (on_bytes k s bytes).seat first.seat more one.seat)
    (bytes_read k first.seat more) in
    same_next _ _ _ (bytes_read k s (bytes ++ more)) (subst (λ (t : Turn). SameTurn t
    (after (on_bytes k s bytes) (λ (t : Seat). on_bytes k t more)))
    (sym (read_in_two k s bytes more fits came_ come))
    (same_back _ _ (after_same (on_bytes k s bytes) first (λ (t : Seat). on_bytes k t more)
    (λ (t : Seat). read k t more) one second)))
