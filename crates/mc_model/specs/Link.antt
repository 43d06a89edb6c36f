-- Links: what is kept of one connection, apart from the game. How far it has come, why it was
-- closed, and what it is owed. Rules of this project.
use Rattle.std.specs.Prelude.{ℕ, ◌+◌, ◌&&◌, ◌||◌, not, nat_lt, nat_le, Bool, List, [], ◌++◌, length}
use Rattle.std.specs.Prelude.{Option, Some, None, if◌then◌else◌}
use lib.IntN.{ℤ, pos}
use Rattle.mc_frame.specs.Kept.{outbox_max}
use Rattle.mc_model.specs.declared.cause.Cause.{Cause}
use Rattle.mc_model.specs.declared.cause.Cause.TheVariants as causes
use Rattle.mc_model.specs.declared.stage.Stage.{Stage}
use Rattle.mc_model.specs.declared.stage.Stage.TheVariants as stages
use Rattle.mc_model.specs.Packets.{Sent, bytes_of}
use Rattle.mc_model.specs.Stages.{is_closed}

pub record Link : Type 0 where
  pub stage : Stage
  -- the protocol that its handshake named
  pub protocol : ℤ
  -- why it was closed
  pub cause : Option Cause
  -- the bytes that were handed out to it and that it has not taken
  pub owed : List ℕ
  -- how many beats its client left without an answer
  pub missed : ℕ

-- nothing came of it yet
abbrev pub new_link : Link
new_link = record {
  stage = stages.Hand;
  protocol = pos 0;
  cause = None;
  owed = [];
  missed = 0;
}

-- it is open, or it is owed bytes still
abbrev pub is_kept : Link → Bool
is_kept l = not (is_closed l.stage) || nat_lt 0 (length l.owed)

-- it is closed and owed nothing
abbrev pub is_done : Link → Bool
is_done l = is_closed l.stage && nat_le (length l.owed) 0

-- ---- handing out, and closing

-- what is made of a link, and what is handed out to it
pub record Handing : Type 0 where
  pub link : Link
  pub handed : List Sent

abbrev pub quiet : Link → Handing
quiet l = record { link = l; handed = [] }

abbrev pub mark_closed : Link → Cause → Link
mark_closed l cause = record l { stage = stages.Closed; cause = Some cause }

-- Packets are handed out all or none: where their bytes would bring what is owed past the most that
-- an outbox holds, the connection is closed and owed nothing.
unfoldable pub hand : Link → List Sent → Handing
hand l packets =
    if nat_le (length l.owed + length (bytes_of packets)) outbox_max
    then record { link = record l { owed = l.owed ++ bytes_of packets }; handed = packets }
    else record { link = record (mark_closed l causes.Backlog) { owed = [] }; handed = [] }

-- closing a connection, with its last packets
abbrev pub disconnect : Link → Cause → List Sent → Handing
disconnect l cause packets = hand (mark_closed l cause) packets

-- an open connection is closed, since it left or a write to it broke; what is owed goes in any case
abbrev pub gone : Cause → Link → Link
gone cause l =
    if is_closed l.stage then record l { owed = [] }
    else record (mark_closed l cause) { owed = [] }
