use Rattle.std.proofs.Common.{◌≡◌, take}
use Rattle.std.specs.Int.{w32}
use Rattle.std.specs.List.{AllByRecursion}
use mir.Val.{SFits}
use Rattle.mc_told.proofs.entities.numbers_of.Given as goal

-- it has the first so many
abbrev pub invariant-loop-eid : goal.invariant-loop-eid
invariant-loop-eid l = record {
  value : l.numbers ≡ take l.eid-index l.eids;
  fits : AllByRecursion (SFits w32) l.numbers;
}
