use Rattle.std.proofs.Common.{◌≡◌, None, length}
use Rattle.mc_capture.specs.Hearings.{from_front}
use Rattle.mc_capture.specs.Talks.{Hearing}
use Rattle.mc_model.specs.Replica.{Replica}
use Rattle.mc_show.specs.Following.{Brings}
use Rattle.mc_show.proofs.following.take_frames.Given as goal

-- what is held now brings the way to what all that was held does
abbrev pub invariant-taking : goal.invariant-taking
invariant-taking l = record {
  brings : (next : Hearing) (world : Replica) →
      Brings l.way (from_front l.states) l.splitter.held next l.world world →
      Brings l.way (from_front l.fn.states) l.fn.splitter.held next l.fn.world world;
  fine : l.splitter.fault ≡ None;
}

abbrev pub decreases-taking : goal.decreases-taking
decreases-taking l = length l.splitter.held
