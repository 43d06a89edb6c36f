use Rattle.std.proofs.Common.{◌≡◌, ◌<◌, ◌≤◌, length}
use Rattle.mc_wire.specs.Count.{NeverFalls}
use Rattle.mc_wire.proofs.Loops.{HasRead}
use Rattle.mc_wire.proofs.source.read_up_to.Given as goal

abbrev pub invariant-loop-piece : goal.invariant-loop-piece
invariant-loop-piece g l = record {
  room : length l.piece ≡ 65536;
  within : length l.bytes.items ≤ l.most;
  read : HasRead (g.S.Source.left l.fn.source) (g.S.Source.left l.source)
      (g.S.Source.faults l.fn.source) (g.S.Source.faults l.source) l.bytes.items;
  called : 0 < length l.bytes.items →
      NeverFalls (g.S.Source.faults l.fn.source) (g.S.Source.faults l.source);
}

abbrev pub decreases-loop-piece : goal.decreases-loop-piece
decreases-loop-piece g l = g.S.Source.answers l.source
