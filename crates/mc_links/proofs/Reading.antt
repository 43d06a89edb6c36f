-- Frames of one connection, taken and done one after another.
use Rattle.std.proofs.Common.{◌≡◌, ℕ, Bool, true, false, List, [], ◌∷◌, ◌++◌, length, drop, refl}
use Rattle.std.proofs.Common.{sym, subst, ap, ◌∙◌}
use Rattle.std.specs.Prelude.{Option, Some}
use Rattle.mc_frame.specs.declared.fault.FrameFault.{FrameFault}
use Rattle.mc_frame.specs.declared.fault.Take.TheVariants.{Frame, Bad}
use Rattle.mc_frame.specs.Cut.{IsPart}
use Rattle.mc_frame.specs.Held.{Splitting}
use Rattle.mc_frame.specs.Splitting.{Feeds, Takes}
use Rattle.mc_model.specs.declared.cause.Cause.{Cause}
use Rattle.mc_model.specs.declared.cause.Cause.TheVariants as causes
use Rattle.mc_model.specs.Cutting.{cut_of}
use Rattle.mc_model.specs.Packets.{Sent}
use Rattle.mc_model.specs.Talk.{farewell}
use Rattle.mc_model.specs.Stages.{is_closed}
use Rattle.mc_model.specs.Link.{Link, disconnect, mark_closed}
use Rattle.mc_model.specs.Step.{disconnect_for, on_bytes, on_cut, on_fault, on_frame, on_frames}
use Rattle.mc_model.specs.World.{Seat, Unread, nothing_unread}
use Rattle.mc_laws.proofs.Walk.Handings.{hand_cases}
use Rattle.mc_play.specs.Kept.{GameValue}
use Rattle.mc_links.specs.Kept.{ConnectionValue}
use Rattle.mc_links.specs.Sitting.{Holds, IsUnderway, Sits, unread_after}
use Rattle.mc_links.specs.Seats.{AreDone, Becomes, HasRead, IsReading, seat_with}
use Rattle.mc_links.proofs.Cuts.{cut_begins, underway_bad, underway_fed, underway_first}
use Rattle.mc_links.proofs.Cuts.{underway_frame, underway_over}
use Rattle.mc_links.proofs.Turns.{closed_fault, closed_frames, deaf, fault_unread, frames_joined}
use Rattle.mc_links.proofs.Turns.{frames_unread, heeds}

-- ---- turns of a seat

-- the seat after a turn
after_is : (v w : GameValue) (c d : ConnectionValue) (s : Seat) → Becomes v w c d s →
    seat_with w d s.unread ≡ s
after_is v w c d s b = λ i. record {
  game = (b.game i).game;
  link = (b.link i).link;
  unread = s.unread;
}

-- one turn behind another
pub becomes_next : (v w x : GameValue) (c d e : ConnectionValue) (s t : Seat) →
    Becomes v w c d s → Becomes w x d e t → Becomes v x c e t
becomes_next v w x c d e s t first next = record {
  game = next.game
      ∙ ap (λ (u : GameValue). record x { game = t.game; settled = u.settled }) first.game;
  link = next.link ∙ ap (λ (f : ConnectionValue). record f { link = t.link }) first.link;
}

-- with another splitter
splits : (v w : GameValue) (c d e : ConnectionValue) (s : Seat) →
    e ≡ record d { splitter = e.splitter } → Becomes v w (record c { splitter = d.splitter }) d s →
    Becomes v w (record c { splitter = e.splitter }) e s
splits v w c d e s same b = record {
  game = b.game;
  link = same ∙ ap (λ (f : ConnectionValue). record f { splitter = e.splitter }) b.link;
}

-- ---- steps

pub reading_begun : (v : GameValue) (c : ConnectionValue) (unread : Unread) (bytes : List ℕ) →
    Holds c.splitter unread → HasRead true unread.before (unread.rest ++ bytes) v v c c bytes
reading_begun v c unread bytes holds =
    let held : c.splitter.held ++ bytes ≡ unread.rest ++ bytes =
    ap (λ (rest : List ℕ). rest ++ bytes) holds.held in (
      record {
        payloads = [];
        underway =
            subst (λ (all : List ℕ). IsUnderway unread.before all [] c.splitter bytes) held
            (underway_first unread.before c.splitter bytes holds.before holds.fine);
        becomes = λ u. record { game = refl; link = refl };
      },
      subst IsPart (sym holds.held) holds.part,
    )

-- its splitter is fed
pub reading_fed : (count : ℕ) (all left_ : List ℕ) (v w : GameValue) (c d e : ConnectionValue)
    (n : ℕ) → e ≡ record d { splitter = e.splitter } → Feeds d.splitter left_ n e.splitter →
    IsReading count all v w c d left_ → IsReading count all v w c e (drop n left_)
reading_fed count all left_ v w c d e n same fed r = record {
  payloads = r.payloads;
  underway = underway_fed count all r.payloads d.splitter e.splitter left_ n fed r.underway;
  becomes = λ u. splits v w c d e _ same (r.becomes u);
}

module _ {count : ℕ} {all left_ : List ℕ} {v w : GameValue} {c d : ConnectionValue}
    (r : IsReading count all v w c d left_) where
  -- the seat so far
  abbrev so_far : Unread → Seat
  so_far u = (on_frames c.id (seat_with v c u) r.payloads).seat

  far_link : (u : Unread) → d.link ≡ (so_far u).link
  far_link u = ap (λ (f : ConnectionValue). f.link) (r.becomes u).link

  module _ (m : ConnectionValue) (same : m ≡ record d { splitter = m.splitter }) where
    split : (u : Unread) → Becomes v w (record c { splitter = m.splitter }) m (so_far u)
    split u = splits v w c d m (so_far u) same (r.becomes u)

    named : m.id ≡ c.id
    named = ap (λ (f : ConnectionValue). f.id) (split nothing_unread).link

    -- a turn of the seat as it is kept is one of the seat so far
    next_turn : (x : GameValue) (e : ConnectionValue) (f : ℕ → Seat → Seat) →
        ((u : Unread) → Becomes w x m e (f m.id (seat_with w m u))) → (u : Unread) →
        Becomes v x (record c { splitter = e.splitter }) e (f c.id (so_far u))
    next_turn x e f does u =
        let s = so_far u in
        let at : seat_with w m s.unread ≡ s =
        after_is v w (record c { splitter = m.splitter }) m s (split u) in
        let turned : Becomes w x m e (f c.id s) =
        subst (λ (t : Seat). Becomes w x m e (f c.id t)) at
        (subst (λ (k : ℕ). Becomes w x m e (f k (seat_with w m s.unread))) named
        (does s.unread)) in
        let kept : m.splitter ≡ e.splitter =
        sym (ap (λ (g : ConnectionValue). g.splitter) turned.link) in
        subst (λ (p : Splitting). Becomes v x (record c { splitter = p }) e (f c.id s)) kept
        (becomes_next v w x (record c { splitter = m.splitter }) m e s (f c.id s) (split u) turned)

    -- a frame was taken and done
    pub reading_frame : (x : GameValue) (e : ConnectionValue) (payload : List ℕ) →
        Takes d.splitter (Frame payload) m.splitter →
        ((u : Unread) → Becomes w x m e (on_frame m.id (seat_with w m u) payload).seat) →
        IsReading count all v x c e left_
    reading_frame x e payload takes does =
        let kept : m.splitter ≡ e.splitter =
        sym (ap (λ (g : ConnectionValue). g.splitter) (does nothing_unread).link) in
        record {
          payloads = r.payloads ++ payload ∷ [];
          underway =
              subst (λ (p : Splitting). IsUnderway count all (r.payloads ++ payload ∷ []) p left_)
              kept (underway_frame count all r.payloads payload d.splitter m.splitter left_ takes
              r.underway);
          becomes = λ u.
              subst (λ (t : Seat). Becomes v x (record c { splitter = e.splitter }) e t)
              (sym (frames_joined c.id r.payloads (payload ∷ []) (seat_with v c u)))
              (next_turn x e (λ k s. (on_frame k s payload).seat) does u);
        }

-- ---- ends

closed_not : (b : Bool) → b ≡ true → b ≡ false → ⊥
closed_not b closed open_ = let clash : true ≡ false = sym closed ∙ open_ in cc

-- it was closed by a frame: those behind it, and a fault, do nothing
pub done_closed : (count : ℕ) (all left_ : List ℕ) (v w : GameValue) (c d : ConnectionValue) →
    IsReading count all v w c d left_ → is_closed d.link.stage ≡ true →
    AreDone count all v w c d
done_closed count all left_ v w c d r closed =
    let begins = cut_begins count all r.payloads d.splitter left_ r.underway in
    let over : (u : Unread) → is_closed (so_far r u).link.stage ≡ true =
    λ u. ap (λ (l : Link). is_closed l.stage) (sym (far_link r u)) ∙ closed in
    let frames : (u : Unread) →
    (on_frames c.id (seat_with v c u) (cut_of count all).frames).seat ≡ so_far r u =
    λ u. ap (λ (fs : List (List ℕ)). (on_frames c.id (seat_with v c u) fs).seat) begins.1
    ∙ frames_joined c.id r.payloads begins.0 (seat_with v c u)
    ∙ closed_frames c.id begins.0 (so_far r u) (over u) in
    record {
      becomes = λ u. subst (λ (t : Seat). Becomes v w (record c { splitter = d.splitter }) d t)
          (sym (ap (λ (s : Seat). (on_fault c.id s (cut_of count all).fault).seat) (frames u)
          ∙ closed_fault c.id (so_far r u) (cut_of count all).fault (over u)))
          (r.becomes u);
      sits = λ open_. absurd (closed_not (is_closed d.link.stage) closed open_);
    }

-- whoever is disconnected is closed
disconnect_closed : (l : Link) (cause : Cause) (packets : List Sent) →
    is_closed (disconnect l cause packets).link.stage ≡ true
disconnect_closed l cause packets = hand_cases (mark_closed l cause) packets
    (λ h. is_closed h.link.stage ≡ true) (λ fits. refl) (λ much. refl)

-- its bytes begin no frame
pub done_bad : (count : ℕ) (all left_ : List ℕ) (v w x : GameValue) (c d m e : ConnectionValue)
    (fault : FrameFault) → m ≡ record d { splitter = m.splitter } →
    Takes d.splitter (Bad fault) m.splitter → is_closed d.link.stage ≡ false →
    ((u : Unread) →
    Becomes w x m e (disconnect_for m.id (seat_with w m u) (causes.Frame fault)).seat) →
    IsReading count all v w c d left_ → AreDone count all v x c e
done_bad count all left_ v w x c d m e fault same takes open_ does r =
    let into = underway_bad count all r.payloads d.splitter m.splitter left_ fault takes.0
    r.underway in
    let heard : (u : Unread) → (on_fault c.id (so_far r u) (Some fault)).seat
    ≡ (disconnect_for c.id (so_far r u) (causes.Frame fault)).seat =
    λ u. heeds (so_far r u) (λ (s : Seat). disconnect_for c.id s (causes.Frame fault))
    (ap (λ (l : Link). is_closed l.stage) (sym (far_link r u)) ∙ open_) in
    let closed : is_closed e.link.stage ≡ true =
    ap (λ (f : ConnectionValue). is_closed f.link.stage) (does nothing_unread).link
    ∙ disconnect_closed m.link (causes.Frame fault)
    (farewell m.link.stage (causes.Frame fault)) in
    let P : Seat → Type 0 = λ t. Becomes v x (record c { splitter = e.splitter }) e t in
    record {
      becomes = λ u.
          subst (λ (o : Option FrameFault). P (on_fault c.id
          (on_frames c.id (seat_with v c u) (cut_of count all).frames).seat o).seat) into.fault
          (subst (λ (fs : List (List ℕ)). P (on_fault c.id
          (on_frames c.id (seat_with v c u) fs).seat (Some fault)).seat) into.frames
          (subst P (sym (heard u)) (next_turn r m same x e
          (λ k s. (disconnect_for k s (causes.Frame fault)).seat) does u)));
      sits = λ still_. absurd (closed_not (is_closed e.link.stage) closed still_);
    }

-- all bytes were fed, and it is open
pub done_over : (count : ℕ) (all left_ : List ℕ) (v w : GameValue) (c d : ConnectionValue) →
    length left_ ≡ 0 → HasRead true count all v w c d left_ → AreDone count all v w c d
done_over count all left_ v w c d none (r, part) =
    let into = underway_over count all r.payloads d.splitter left_ none (r.underway, part) in
    let P : Seat → Type 0 = λ t. Becomes v w (record c { splitter = d.splitter }) d t in
    record {
      becomes = λ u.
          subst (λ (o : Option FrameFault). P (on_fault c.id
          (on_frames c.id (seat_with v c u) (cut_of count all).frames).seat o).seat) into.fault
          (subst (λ (fs : List (List ℕ)). P (on_frames c.id (seat_with v c u) fs).seat)
          into.frames (r.becomes u));
      sits = λ open_. into.holds refl;
    }

-- ---- all bytes

-- those of a closed connection are ignored
pub bytes_deaf : (v : GameValue) (c : ConnectionValue) (unread : Unread) (bytes : List ℕ) →
    is_closed c.link.stage ≡ true →
    Becomes v v c c (on_bytes c.id (seat_with v c unread) bytes).seat
unfolding on_bytes
bytes_deaf v c unread bytes over =
    subst (λ (t : Seat). Becomes v v c c t)
    (sym (deaf (seat_with v c unread)
    (λ (s : Seat). on_cut c.id s (length (s.unread.rest ++ bytes))
    (cut_of s.unread.before (s.unread.rest ++ bytes))) over))
    (record { game = refl; link = refl })

-- what the bytes come to
pub bytes_done : (v w : GameValue) (c d : ConnectionValue) (unread : Unread) (bytes : List ℕ) →
    is_closed c.link.stage ≡ false →
    AreDone unread.before (unread.rest ++ bytes) v w c d →
    Becomes v w (record c { splitter = d.splitter }) d
    (on_bytes c.id (seat_with v c unread) bytes).seat
    × Sits d (on_bytes c.id (seat_with v c unread) bytes).seat.unread
unfolding on_bytes
bytes_done v w c d unread bytes open_ done =
    let s = seat_with v c unread in
    let all = unread.rest ++ bytes in
    let cut = cut_of unread.before all in
    let left_ = unread_after unread.before all in
    let t = (on_fault c.id (on_frames c.id (seat_with v c left_) cut.frames).seat cut.fault).seat in
    let came : (on_bytes c.id s bytes).seat ≡ t =
    heeds s (λ (s : Seat). on_cut c.id s (length (s.unread.rest ++ bytes))
    (cut_of s.unread.before (s.unread.rest ++ bytes))) open_ in
    let kept : t.unread ≡ left_ =
    fault_unread c.id (on_frames c.id (seat_with v c left_) cut.frames).seat cut.fault
    ∙ frames_unread c.id cut.frames (seat_with v c left_) in (
      subst (λ (t : Seat). Becomes v w (record c { splitter = d.splitter }) d t) (sym came)
          (done.becomes left_),
      subst (λ (u : Unread). Sits d u) (sym (ap (λ (t : Seat). t.unread) came ∙ kept)) done.sits,
    )
