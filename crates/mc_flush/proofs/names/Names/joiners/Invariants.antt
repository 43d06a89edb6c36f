use Rattle.std.proofs.Common.{◌≡◌, ◌++◌, map}
use Rattle.std.specs.List.{AllByRecursion}
use lib.IntN.{pos}
use Rattle.mc_model.specs.Delta.{joiner}
use Rattle.mc_flush.specs.Carried.{IsCarried}
use Rattle.mc_flush.specs.Seeing.{IsNamed}
use Rattle.mc_flush.proofs.names.Names.joiners.Given as goal

-- what was made and what is left make all
abbrev pub invariant-loop-uuid : goal.invariant-loop-uuid
invariant-loop-uuid l = record {
  made : l.players ++ map joiner l.uuid-iterator ≡ map joiner l.self.found.entries;
  carried : AllByRecursion (IsCarried (pos 0)) l.players;
  named : AllByRecursion IsNamed l.uuid-iterator;
}
