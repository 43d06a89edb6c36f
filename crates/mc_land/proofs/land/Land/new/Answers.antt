use Rattle.std.proofs.Common.{ap}
use Rattle.mc_land.specs.KeptLand.{placed}
use Rattle.mc_land.proofs.LookFacts.{kept_new, indexed_new}
use Rattle.mc_land.proofs.UpkeepFacts.{upkeep_new}
use Rattle.mc_land.proofs.land.Land.new.Goals as goal

pub invariant_of-result : goal.invariant_of-result
invariant_of-result c = (
  kept_new c.args.terrain _ _ (ap placed c.new.ensures.items) c.new-3.ensures.empty
      c.new-3.ensures.ordered,
  indexed_new _ _ c.new.ensures.items c.new-2.ensures.empty,
  upkeep_new _ _ c.new.ensures.items c.new-4.ensures.touched c.new-4.ensures.staying,
)
