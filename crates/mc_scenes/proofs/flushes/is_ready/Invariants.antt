use Rattle.std.specs.List.{AllByRecursion}
use Rattle.mc_land.specs.Places.{IsPlace}
use Rattle.mc_view.specs.Sets.{all_of}
use Rattle.mc_scenes.proofs.Tried.{IsThere}
use Rattle.mc_scenes.proofs.flushes.is_ready.Given as goal

-- where the rest are ready, all are
abbrev pub invariant-loop-place : goal.invariant-loop-place
invariant-loop-place g l = record {
  near : AllByRecursion IsPlace l.place-iterator;
  ready : AllByRecursion (IsThere l.land) l.place-iterator →
      AllByRecursion (IsThere l.land) (all_of l.view);
}
