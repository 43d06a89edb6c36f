use Rattle.std.proofs.Common.{length}
use Rattle.mc_capture.specs.Hearings.{IsWaiting, heard_from}
use Rattle.mc_capture.specs.Talks.{Hearing}
use Rattle.mc_model.specs.Replica.{Replica}
use Rattle.mc_show.specs.Following.{Brings}
use Rattle.mc_show.proofs.following.take_piece.Given as goal

-- the rest brings the way to what the whole piece does
abbrev pub invariant-loop-rest : goal.invariant-loop-rest
invariant-loop-rest l = record {
  brings : (next : Hearing) (world : Replica) →
      Brings l.way (heard_from l.states l.splitter.held) l.rest next l.world world →
      Brings l.way (heard_from l.fn.states l.fn.splitter.held) l.fn.piece next l.fn.world world;
  waiting : IsWaiting l.splitter;
}

abbrev pub decreases-loop-rest : goal.decreases-loop-rest
decreases-loop-rest l = length l.rest
