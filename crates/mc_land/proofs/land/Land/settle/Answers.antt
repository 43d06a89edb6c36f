use Rattle.mc_land.proofs.ChangeFacts.{settle_land, settle_keeps}
use Rattle.mc_land.proofs.UpkeepFacts.{upkeep_settled}
use Rattle.std.proofs.Common.{refl}
use Rattle.mc_land.proofs.land.Land.settle.Goals as goal

pub invariant_of-self : goal.invariant_of-self
invariant_of-self c =
    let kept = settle_keeps _ c.self.inside.columns.items _ _ _ c.settle_touched.ensures
    (c.self.invariant.0, c.self.invariant.1) in (
      kept.0,
      kept.1,
      upkeep_settled c.self.inside.columns.items _ c.self.inside.upkeep _ c.settle_touched.ensures
          c.clear.ensures.empty refl refl c.self.invariant.2,
    )

pub returns : goal.returns
returns c = rw (← c.self.view_is) (settle_land _ _ _ _ c.settle_touched.ensures)
