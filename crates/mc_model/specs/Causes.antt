-- For which cause an event closes a connection. It speaks of the first frame that closes it, and
-- not of the order of work. Rules of this project.
use Rattle.std.specs.Prelude.{◌≡◌, ◌↔◌, ℕ, ◌+◌, ◌<◌, nat_le, Bool, true, false, List, [], ◌∷◌, ◌++◌}
use Rattle.std.specs.Prelude.{length, map, Option, Some, None, if◌then◌else◌}
use Rattle.std.specs.FinMap.{get}
use Rattle.mc_frame.specs.declared.fault.FrameFault.{FrameFault}
use Rattle.mc_frame.specs.Cut.{Cut}
use Rattle.mc_frame.specs.Kept.{outbox_max}
use Rattle.mc_model.specs.declared.cause.Cause.{Cause}
use Rattle.mc_model.specs.declared.cause.Cause.TheVariants as causes
use Rattle.mc_model.specs.declared.cause.Refusal.{Refusal}
use Rattle.mc_model.specs.declared.player.Player.{Player}
use Rattle.mc_model.specs.Cutting.{cut_of}
use Rattle.mc_model.specs.Names.{offline_uuid}
use Rattle.mc_model.specs.Packets.{Sent, of_status, of_play, bytes_of}
use Rattle.mc_model.specs.Step.{Event, joined, came, left, broke, ticked, took, forgot, is_new}
use Rattle.mc_model.specs.Step.{asked_by, is_crowded, on_frames, read_to, refusal, step}
use Rattle.mc_model.specs.Talk.{ClientRequest, nothing, greets, replies, ends, enters, acts, wrong}
use Rattle.mc_model.specs.Talk.{farewell, refused, accepted}
use Rattle.mc_model.specs.Stages.{is_closed}
use Rattle.mc_model.specs.Acts.{act}
use Rattle.mc_model.specs.Link.{Link}
use Rattle.mc_model.specs.Showing.{due}
use Rattle.mc_model.specs.World.{Seat, World, seat_of}
use Rattle.mc_model.specs.Tick.{at_tick, grown, is_silent}
use Rattle.mc_model.specs.Run.{cause_in}

-- the connection is there, and not closed
pub record IsOpen (w : World) (k : ℕ) (l : Link) : Type 0 where
  pub is_there : get w.links k ≡ Some l
  pub open_ : is_closed l.stage ≡ false

-- packets would bring what is owed past the most
abbrev pub IsTooMuch : Link → List Sent → Type 0
IsTooMuch l packets = outbox_max < length l.owed + length (bytes_of packets)

-- a cause, or that its last packets are too much
abbrev pub or_backlog : Link → Cause → List Sent → Cause
or_backlog l cause packets =
    if nat_le (length l.owed + length (bytes_of packets)) outbox_max then cause else causes.Backlog

-- a cause with the farewell of the stage
abbrev pub or_backlog_farewell : Link → Cause → Cause
or_backlog_farewell l cause = or_backlog l cause (farewell l.stage cause)

-- a player that wants to enter is refused, or its welcome is too much
abbrev pub EnteringCloses : Link → List ℕ → Option Refusal → Cause → Type 0
EnteringCloses l name (Some why) cause = cause ≡ or_backlog l (causes.Refused why) (refused why)
EnteringCloses l name None cause =
    IsTooMuch l (accepted (offline_uuid name) name) × (cause ≡ causes.Backlog)

-- what a frame comes to closes the connection
abbrev pub RequestCloses : ℕ → Seat → ClientRequest → Cause → Type 0
RequestCloses k s nothing cause = ⊥
RequestCloses k s (greets protocol stage) cause = ⊥
RequestCloses k s (replies packet) cause =
    IsTooMuch s.link (of_status packet ∷ []) × (cause ≡ causes.Backlog)
RequestCloses k s (ends packet) cause =
    cause ≡ or_backlog s.link causes.Done (of_status packet ∷ [])
RequestCloses k s (enters name) cause =
    EnteringCloses s.link name (refusal s.game s.link.protocol name) cause
RequestCloses k s (acts packet) cause = (act s.game k packet ≡ None)
    × (cause ≡ or_backlog_farewell s.link causes.BadNumber)
RequestCloses k s (wrong fault) cause = cause ≡ or_backlog_farewell s.link (causes.Packet fault)

-- the next frame closes the connection, or where there is none the length behind them does, which
-- no frame has
abbrev pub NextCloses : ℕ → Seat → List (List ℕ) → Option FrameFault → Cause → Type 0
NextCloses k s (frame ∷ later) fault cause = RequestCloses k s (asked_by s frame) cause
NextCloses k s [] (Some fault) cause = cause ≡ or_backlog_farewell s.link (causes.Frame fault)
NextCloses k s [] None cause = ⊥

-- one of the frames is the first that closes the connection, or the length behind them does; the
-- frames before it are done
pub record FirstCloses (k : ℕ) (s : Seat) (frames : List (List ℕ)) (fault : Option FrameFault)
    (cause : Cause) : Type 0 where
  pub good : List (List ℕ)
  pub later : List (List ℕ)
  pub parts : frames ≡ good ++ later
  pub still_open : is_closed (on_frames k s good).seat.link.stage ≡ false
  pub closes : NextCloses k (on_frames k s good).seat later fault cause

-- bytes close the connection
abbrev pub CutCloses : ℕ → Seat → ℕ → Cut → Cause → Type 0
CutCloses k s count cut cause = FirstCloses k (read_to s cut count) cut.frames cut.fault cause

abbrev pub BytesClose : ℕ → Seat → List ℕ → Cause → Type 0
BytesClose k s bytes cause = CutCloses k s (length (s.unread.rest ++ bytes))
    (cut_of s.unread.before (s.unread.rest ++ bytes)) cause

-- a tick closes a connection whose client is silent, or is due too much
abbrev pub TickCloses : Bool → World → ℕ → Link → Player → Cause → Type 0
TickCloses true w k l p cause = cause ≡ or_backlog_farewell l causes.Silent
TickCloses false w k l p cause =
    IsTooMuch l (map of_play (due (at_tick w).game (get w.shown k) p)) × (cause ≡ causes.Backlog)

-- an event closes a connection for a cause: bytes, leaving and a broken write their own, a tick one
-- whose client is silent or is due too much, and a join one that is one too many
abbrev pub Closes : World → Event → ℕ → Cause → Type 0
Closes w (joined j) k cause =
    (j ≡ k) × (is_new k w.last ≡ true) × (is_crowded w ≡ true) × (cause ≡ causes.Crowded)
Closes w (came j bytes) k cause =
    (j ≡ k) × ((l : Link) × IsOpen w k l × BytesClose k (seat_of w k l) bytes cause)
Closes w (left j) k cause = (j ≡ k) × ((l : Link) × IsOpen w k l) × (cause ≡ causes.Gone)
Closes w (broke j) k cause = (j ≡ k) × ((l : Link) × IsOpen w k l) × (cause ≡ causes.Broke)
Closes w ticked k cause =
    (l : Link) × (p : Player) × IsOpen w k l × (get w.game.players k ≡ Some p)
    × TickCloses (is_silent (grown w.game) (get w.shown k) l) w k l p cause
Closes w (took j n) k cause = ⊥
Closes w (forgot j) k cause = ⊥

-- an event closes just the connections that it has a cause to close, each for that
abbrev pub ClosesFirst : World → Event → Type 0
ClosesFirst w e = (k : ℕ) (cause : Cause) → cause_in k w ≡ None →
    (cause_in k (step w e).world ≡ Some cause ↔ Closes w e k cause)
