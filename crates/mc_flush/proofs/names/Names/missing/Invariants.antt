use Rattle.std.specs.Prelude.{nat_eq}
use Rattle.std.specs.List.{IsDistinct}
use Rattle.std.specs.Map.{keys_of}
use Rattle.std.specs.BTreeMap.{IsOrdered}
use Rattle.std.specs.Ordering.{nat_cmp}
use Rattle.mc_flush.proofs.Missing.{IsFinding}
use Rattle.mc_flush.proofs.names.Names.missing.Given as goal

abbrev pub invariant-loop-uuid : goal.invariant-loop-uuid
invariant-loop-uuid l = record {
  ordered : IsOrdered nat_cmp l.found;
  apart : IsDistinct nat_eq (keys_of l.uuid-iterator);
  finding : IsFinding l.others.entries l.found.entries l.uuid-iterator l.players.entries;
}
