use Rattle.std.proofs.Common.{◌≡◌, length, ap}
use Rattle.mc_land.proofs.ShedFacts.{shed_keeps}
use Rattle.mc_land.proofs.UpkeepFacts.{upkeep_shed}
use Rattle.mc_land.proofs.land.Land.shed.Goals as goal

pub shed_columns-requires-clause-within : goal.shed_columns-requires-clause-within
shed_columns-requires-clause-within c =
    (c.known_to_stay-from.ensures c.self.inside.columns.items c.self.invariant.2).0

pub shed_columns-requires-clause-known : goal.shed_columns-requires-clause-known
shed_columns-requires-clause-known c =
    (c.known_to_stay-from.ensures c.self.inside.columns.items c.self.invariant.2).1

pub invariant_of-self : goal.invariant_of-self
invariant_of-self c =
    let settled = rw (← c.self.view_is) at c.requires in
    let same_length : length c.as_slice.result.now ≡ length c.shed_columns.new.columns.items =
    ap length c.as_slice.ensures.value in (
      (shed_keeps _ _ _ _ _ _ _ (c.self.invariant.0, c.self.invariant.1) settled
          c.shed_columns.ensures.shed c.shed_columns.ensures.indexed).0,
      c.shed_columns.ensures.indexed,
      upkeep_shed _ _ _ _ c.args.views.now c.self.inside.upkeep c.keep_staying.new.self
          c.self.invariant.0 settled c.shed_columns.ensures.shed c.keep_staying.ensures.touched
          (rw same_length at c.keep_staying.ensures.fewer)
          (c.keep_staying.ensures.stay c.shed_columns.new.columns.items
          (rw (← same_length) at c.shed_columns.ensures.kept)) c.self.invariant.2,
    )

pub returns : goal.returns
returns c = rw (← c.self.view_is) (shed_keeps _ _ _ _ _ _ _
    (c.self.invariant.0, c.self.invariant.1) (rw (← c.self.view_is) at c.requires)
    c.shed_columns.ensures.shed c.shed_columns.ensures.indexed).1
