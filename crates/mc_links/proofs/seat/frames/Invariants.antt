-- What was read so far, that the connection is open, and that no tick came.
use Rattle.std.proofs.Common.{◌≡◌, ℕ, List, false, length}
use Rattle.mc_model.specs.Stages.{is_closed}
use Rattle.mc_play.specs.Kept.{GameValue}
use Rattle.mc_links.specs.Kept.{ConnectionValue}
use Rattle.mc_links.specs.Seats.{IsReading}
use Rattle.mc_links.proofs.seat.frames.Given as goal

abbrev pub invariant-taking : goal.invariant-taking
invariant-taking l = record {
  is_open : is_closed l.connection.link.stage ≡ false;
  reading : (count : ℕ) (all left_ : List ℕ) (v : GameValue) (c : ConnectionValue) →
      IsReading count all v l.fn.game c l.fn.connection left_ →
      IsReading count all v l.game c l.connection left_;
  age : l.game.game.age ≡ l.fn.game.game.age;
}

abbrev pub decreases-taking : goal.decreases-taking
decreases-taking l = length l.connection.splitter.held
