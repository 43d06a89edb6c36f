-- Handing out to a connection, closing it and letting its player in: what was handed to it is
-- decoded, and its seat stays sound.
use Rattle.std.proofs.Common.{◌≡◌, ◌≢◌, ℕ, Bool, true, false, List, [], ◌++◌, Option, refl, sym, ap}
use Rattle.std.proofs.Common.{◌∙◌}
use Rattle.std.specs.Prelude.{is_some, if◌then◌else◌}
use Rattle.std.specs.FinMap.{get}
use Rattle.mc_model.specs.declared.cause.Cause.{Cause}
use Rattle.mc_model.specs.declared.cause.Cause.TheVariants as causes
use Rattle.mc_model.specs.declared.stage.Stage.TheVariants as stages
use Rattle.mc_model.specs.Packets.{Decoder, Sent, bytes_of}
use Rattle.mc_model.specs.Talk.{farewell}
use Rattle.mc_model.specs.Stages.{is_closed, is_play}
use Rattle.mc_model.specs.Leaving.{leave, left_by}
use Rattle.mc_model.specs.Link.{Handing, Link, disconnect, hand, mark_closed}
use Rattle.mc_model.specs.World.{Seat, Turn}
use Rattle.mc_model.specs.Step.{after, disconnect_for, still, turn}
use Rattle.mc_laws.proofs.StageDecoding.{Hands, hands_farewell, hands_onward, hands_same}
use Rattle.mc_laws.proofs.StageDecoding.{hands_shut}
use Rattle.mc_laws.proofs.Deeds.Leaving.{leave_same}
use Rattle.mc_laws.proofs.Fits.Clear.{SoundGame}
use Rattle.mc_laws.proofs.Fits.Sound.{leave_sound}
use Rattle.mc_laws.proofs.Walk.Handings.{hand_cases, not_in_play}

-- a seat whose game can be told, where there is a player exactly while the connection is in play
pub record IsSeat (k : ℕ) (s : Seat) : Type 0 where
  pub sound : SoundGame s.game
  pub plays : is_some (get s.game.players k) ≡ is_play s.link.stage

-- A turn of a connection: its seat stays so, and what was handed to it is decoded behind what was
-- before, by o. Where it still waits for its first frame, N holds. None of its bytes is read.
pub record SeatDecodes (o : Option Decoder) (N : Type 0) (k : ℕ) (s : Seat) (t : Turn) : Type 0
  where
    pub seat : IsSeat k t.seat
    pub hands : Hands o s.link.stage t.seat.link.stage t.handed
    pub waits : t.seat.link.stage ≡ stages.Hand → N
    pub unread : t.seat.unread ≡ s.unread

-- of which less may hold
pub seat_less : (o : Option Decoder) (N M : Type 0) (k : ℕ) (s : Seat) (t : Turn) → (N → M) →
    SeatDecodes o N k s t → SeatDecodes o M k s t
seat_less o N M k s t less h = record {
  seat = h.seat;
  hands = h.hands;
  waits = λ at. less (h.waits at);
  unread = h.unread;
}

-- nothing happens
pub seat_still : (o : Option Decoder) (k : ℕ) (s : Seat) → IsSeat k s →
    SeatDecodes o (s.link.stage ≡ stages.Hand) k s (still s)
seat_still o k s seat = record {
  seat = seat;
  hands = hands_same o s.link.stage;
  waits = λ at. at;
  unread = refl;
}

-- one turn after the other
pub seat_onward : (o : Option Decoder) (N M : Type 0) (k : ℕ) (s : Seat) (t : Turn)
    (later : Seat → Turn) → SeatDecodes o N k s t →
    (M → t.seat.link.stage ≡ stages.Hand) → SeatDecodes o M k t.seat (later t.seat) →
    SeatDecodes o (N × M) k s (after t later)
seat_onward o N M k s t later first waited next = record {
  seat = next.seat;
  hands = hands_onward o s.link.stage t.seat.link.stage (later t.seat).seat.link.stage t.handed
      (later t.seat).handed first.hands next.hands;
  waits = λ at. let m = next.waits at in (first.waits (waited m), m);
  unread = next.unread ∙ first.unread;
}

-- a link in the place of another: who is closed has left
pub left_seat : (k : ℕ) (r : Seat) (m : Link) → SoundGame r.game →
    (is_closed m.stage ≡ false → is_some (get r.game.players k) ≡ is_play m.stage) →
    IsSeat k (record r { game = left_by k m.stage r.game; link = m })
left_seat k r m sound plays = step (is_closed m.stage) refl
  where
    step : (b : Bool) → is_closed m.stage ≡ b →
        IsSeat k (record r { game = if b then leave k r.game else r.game; link = m })
    step true t = record {
      sound = leave_sound k r.game sound;
      plays = ap is_some (leave_same k r.game) ∙ sym (not_in_play m.stage t);
    }
    step false t = record { sound = sound; plays = plays t }

-- packets are handed out, or are too much; it does not wait for its first frame any more
pub seat_hand : (o : Option Decoder) (k : ℕ) (s r : Seat) (m : Link) (packets : List Sent) →
    r.unread ≡ s.unread → SoundGame r.game →
    (is_closed m.stage ≡ false → is_some (get r.game.players k) ≡ is_play m.stage) →
    Hands o s.link.stage m.stage packets → m.stage ≢ stages.Hand →
    SeatDecodes o ⊥ k s (turn k r (hand m packets))
seat_hand o k s r m packets unread sound plays hands past =
    hand_cases m packets (λ (h : Handing). SeatDecodes o ⊥ k s (turn k r h))
    (λ fits. record {
      seat = left_seat k r (record m { owed = m.owed ++ bytes_of packets }) sound plays;
      hands = hands;
      waits = λ at. absurd (past at);
      unread = unread;
    })
    (λ much. record {
      seat = left_seat k r (record (mark_closed m causes.Backlog) { owed = [] }) sound
          (λ open_. absurd cc);
      hands = hands_shut o s.link.stage;
      waits = λ at. absurd cc;
      unread = unread;
    })

-- it is closed with its last packets
pub seat_close : (o : Option Decoder) (k : ℕ) (s : Seat) (cause : Cause) (packets : List Sent) →
    IsSeat k s → Hands o s.link.stage stages.Closed packets →
    SeatDecodes o ⊥ k s (turn k s (disconnect s.link cause packets))
seat_close o k s cause packets seat hands =
    seat_hand o k s s (mark_closed s.link cause) packets refl seat.sound (λ open_. absurd cc)
    hands (λ at. absurd cc)

-- with its farewell
pub seat_farewell : (o : Option Decoder) (k : ℕ) (s : Seat) (cause : Cause) → IsSeat k s →
    SeatDecodes o ⊥ k s (disconnect_for k s cause)
seat_farewell o k s cause seat =
    seat_close o k s cause (farewell s.link.stage cause) seat
    (hands_farewell o s.link.stage cause)
