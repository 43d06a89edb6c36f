use Rattle.std.proofs.Common.{◌≡◌, ◌≤◌, ◌+◌}
use Rattle.std.specs.List.{AllByRecursion}
use Rattle.mc_land.specs.Places.{IsPlace}
use Rattle.mc_flush.specs.Encoding.{AreFrames}
use Rattle.mc_flush.specs.Lists.{ListValue}
use Rattle.mc_showing.specs.Ahead.{with_stayed_changes}
use Rattle.mc_showing.proofs.LookFacts.{stayed_cost}
use Rattle.mc_showing.proofs.prepare.prepare_changes.Given as goal

-- what was encoded are frames of the land, and with what is left it is all
abbrev pub invariant-loop-place : goal.invariant-loop-place
invariant-loop-place g l = record {
  near : AllByRecursion IsPlace l.place-iterator;
  frames : (list : ListValue) → AreFrames l.land list l.initial.encoded
      → AreFrames l.land list l.encoded;
  changed : with_stayed_changes l.land l.mark.view l.view l.encoded l.place-iterator
      ≡ with_stayed_changes l.land l.mark.view l.view l.initial.encoded l.initial.place-iterator;
  bounded : l.steps + stayed_cost l.land l.mark.view l.view l.place-iterator
      ≤ l.initial.steps + stayed_cost l.land l.mark.view l.view l.initial.place-iterator;
}
