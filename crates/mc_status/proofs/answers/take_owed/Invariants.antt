use Rattle.mc_model.specs.World.{Seat}
use Rattle.mc_events.specs.Stands.{owes}
use Rattle.mc_status.specs.Playing.{HasSeat}
use Rattle.mc_status.proofs.Lines.{IsTaking}
use Rattle.mc_status.proofs.answers.take_owed.Given as goal

-- so much was taken
abbrev pub invariant-taking : goal.invariant-taking
invariant-taking l = record {
  taking : (s : Seat) → HasSeat l.fn.server s →
      IsTaking s l.server l.fn.owed.items l.owed.items;
}

abbrev pub decreases-taking : goal.decreases-taking
decreases-taking l = owes 0 l.server
