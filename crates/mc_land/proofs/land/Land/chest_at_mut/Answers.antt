use Rattle.std.proofs.Common.{◌∙◌, sym}
use Rattle.std.specs.FinMap.{get-from_entries}
use Rattle.std.specs.BTreeMap.{keys}
use Rattle.mc_land.specs.Places.{key_cmp}
use Rattle.mc_land.specs.KeptLand.{kept_land, placed}
use Rattle.mc_land.proofs.Orders.{keys_total}
use Rattle.mc_land.proofs.KeptLandFacts.{lookup_is}
use Rattle.mc_land.proofs.ChestFacts.{chest_kept, kept_piles, lends_alike, lent_is, put_view}
use Rattle.mc_land.proofs.land.Land.chest_at_mut.Goals as goal

pub invariant_of-self-lent : goal.invariant_of-self-lent
invariant_of-self-lent c = λ _. (
  λ w. (
    kept_piles _ _ c.self.inside.chests.entries _ c.self.invariant.0
        (c.get_mut.follows.holds w).1,
    c.self.invariant.1,
    c.self.invariant.2,
  ),
  (
    kept_piles _ _ c.self.inside.chests.entries _ c.self.invariant.0
        (λ i. keys (c.get_mut.follows.holds-at-none i)),
    c.self.invariant.1,
    c.self.invariant.2,
  ),
)

pub returns : goal.returns
returns c = rw (← c.self.view_is) (
  lends_alike c.get_mut.result _ _ _ _
      (λ some w. put_view _ _ c.self.inside.chests.entries _ c.args.key.now w
      ((c.get_mut.follows.holds w).3 (lent_is c.get_mut.result _ c.get_mut.ensures.value
      some)).0)
      (λ none. λ i. kept_land c.self.inside.terrain (placed c.self.inside.columns.items)
      (c.get_mut.follows.holds-at-none i).entries),
  record {
    lends = tt;
    piles = c.get_mut.ensures.value ∙ lookup_is key_cmp c.args.key.now c.self.inside.chests.entries
        ∙ sym (get-from_entries keys_total c.self.inside.chests.entries c.args.key.now);
    there = chest_kept _ _ _ c.args.key.now c.self.invariant.0;
  },
)
