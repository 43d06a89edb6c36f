use Rattle.std.proofs.Common.{◌∙◌, sym}
use Rattle.std.specs.FinMap.{get-from_entries}
use Rattle.mc_land.specs.Places.{key_cmp}
use Rattle.mc_land.proofs.Orders.{keys_total}
use Rattle.mc_land.proofs.KeptLandFacts.{lookup_is}
use Rattle.mc_land.proofs.ChestFacts.{chest_kept}
use Rattle.mc_land.proofs.land.Land.chest_at.Goals as goal

pub returns-clause-piles : goal.returns-clause-piles
returns-clause-piles c = rw (← c.self.view_is) (c.get.ensures.value ∙
    lookup_is key_cmp c.args.key.now c.self.inside.chests.entries ∙
    sym (get-from_entries keys_total c.self.inside.chests.entries c.args.key.now))

pub returns-clause-there : goal.returns-clause-there
returns-clause-there c = rw (← c.self.view_is) (chest_kept _ _ _ c.args.key.now c.self.invariant.0)
