use Rattle.std.proofs.Common.{◌≡◌, ◌++◌, map}
use Rattle.std.specs.List.{AllByRecursion}
use lib.IntN.{pos}
use Rattle.mc_model.specs.Delta.{leaver}
use Rattle.mc_flush.specs.Carried.{IsCarried}
use Rattle.mc_flush.proofs.names.Names.leavers.Given as goal

-- what was made and what is left make all
abbrev pub invariant-loop-uuid : goal.invariant-loop-uuid
invariant-loop-uuid l = record {
  made : l.players ++ map leaver l.uuid-iterator ≡ map leaver l.self.found.entries;
  carried : AllByRecursion (IsCarried (pos 4)) l.players;
}
