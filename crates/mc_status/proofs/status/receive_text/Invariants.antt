use Rattle.std.specs.Prelude.{option_map}
use Rattle.mc_wire.specs.Count.{StandsOrRises}
use Rattle.mc_text.proofs.Reading.{left_size}
use Rattle.mc_status.proofs.Texts.{HasTold}
use Rattle.mc_status.proofs.status.receive_text.Given as goal

abbrev pub invariant-loop-rest : goal.invariant-loop-rest
invariant-loop-rest g l = record {
  told : HasTold l.fn.most l.fn.input (g.O.Sink.held l.fn.out) (g.O.Sink.held l.out) l.count l.size
      (option_map (λ r. r.now) l.rest) l.client.server l.client.lines.items;
  counts : StandsOrRises (g.O.Sink.faults l.fn.out) (g.O.Sink.faults l.out);
}

abbrev pub decreases-loop-rest : goal.decreases-loop-rest
decreases-loop-rest g l = left_size (option_map (λ r. r.now) l.rest)
