-- How a client is followed through a capture: how far its connection has come, and its world.
use Rattle.std.specs.Prelude.{◌≡◌, ℕ, Bool, true, false, List, Option, Some, None}
use Rattle.mc_capture.specs.declared.record.Record.{Record}
use Rattle.mc_capture.specs.declared.states.States.{States}
use Rattle.mc_capture.specs.declared.states.Turn.{Turn}
use Rattle.mc_capture.specs.declared.states.Turn.TheVariants.{Stays}
use Rattle.mc_capture.specs.declared.states.Way.{Way}
use Rattle.mc_capture.specs.Frames.{state_of}
use Rattle.mc_capture.specs.Talks.{Hearing, Talk, new_talk, on_bytes, on_frame}
use Rattle.mc_capture.specs.ViewText.{after_record, talk_of}
use Rattle.mc_model.specs.Replica.{Replica, new_replica, replay}
use Rattle.mc_show.specs.PlayPackets.{frame_packets, heard_packets, play_packets, record_packets}

-- ---- one way of its connection, whatever the number of that

-- what a packet of play changes of the states, where a frame is one
abbrev pub turn_where : Bool → Option Turn
turn_where true = Some Stays
turn_where false = None

-- a frame brings the way to this, and the world
pub record FrameBrings (way : Way) (states : States) (frame : List ℕ) (next : Hearing)
    (world world' : Replica) : Type 0 where
  pub heard : (k : ℕ) → (on_frame k way states frame).1 ≡ next
  pub shows : world' ≡ replay world (frame_packets way (state_of way states) frame)

-- bytes bring the way to this, and the world
pub record Brings (way : Way) (now : Hearing) (bytes : List ℕ) (next : Hearing)
    (world world' : Replica) : Type 0 where
  pub heard : (k : ℕ) → (on_bytes k way now bytes).1 ≡ next
  pub shows : (k : ℕ) → world' ≡ replay world (heard_packets k way now bytes)

-- ---- both ways

pub record Followed : Type 0 where
  pub talk : Talk
  pub world : Replica

-- before any record
abbrev pub first_followed : Followed
first_followed = record { talk = new_talk; world = new_replica }

-- after a record of its connection
abbrev pub followed_by : Followed → Record → Followed
followed_by f r = record {
  talk = after_record f.talk r;
  world = replay f.world (record_packets f.talk r);
}

-- after records of all connections
abbrev pub followed_after : ℕ → List Record → Followed
followed_after k records = record {
  talk = talk_of k records;
  world = replay new_replica (play_packets k records);
}
