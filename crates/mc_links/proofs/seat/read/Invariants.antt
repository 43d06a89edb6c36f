-- What was read so far: the connection is open, its splitter holds a part of a frame, and no tick
-- came.
use Rattle.std.proofs.Common.{◌≡◌, ◌++◌, true, false, length}
use Rattle.mc_model.specs.World.{Unread}
use Rattle.mc_model.specs.Stages.{is_closed}
use Rattle.mc_links.specs.Sitting.{Holds}
use Rattle.mc_links.specs.Seats.{HasRead}
use Rattle.mc_links.proofs.seat.read.Given as goal

abbrev pub invariant-loop-rest : goal.invariant-loop-rest
invariant-loop-rest l = record {
  is_open : is_closed l.connection.link.stage ≡ false;
  reading : (unread : Unread) → Holds l.fn.connection.splitter unread →
      HasRead true unread.before (unread.rest ++ l.fn.bytes) l.fn.game l.game l.fn.connection
      l.connection l.rest;
  age : l.game.game.age ≡ l.fn.game.game.age;
}

abbrev pub decreases-loop-rest : goal.decreases-loop-rest
decreases-loop-rest l = length l.rest
