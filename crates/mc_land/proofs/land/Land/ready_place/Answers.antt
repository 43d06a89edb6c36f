use Rattle.std.proofs.Common.{◌∙◌, sym}
use Rattle.mc_land.proofs.ChangeFacts.{ready_stays, push_land, push_keeps, ready_there, not_there}
use Rattle.mc_land.proofs.ChangeFacts.{fresh_new}
use Rattle.mc_land.proofs.KeptLandFacts.{found_unindexed}
use Rattle.mc_land.proofs.UpkeepFacts.{upkeep_push}
use Rattle.mc_land.proofs.land.Land.ready_place.Goals as goal

pub returns-then-is_some-clause-ok : goal.returns-then-is_some-clause-ok
returns-then-is_some-clause-ok c =
    let there = ready_there c.self.inside.columns.items c.self.inside.index.entries c.args.place.now
    c.index_at.result c.self.invariant.1 c.index_at.ensures (sym c.if-is_some.ensures) in
    rw (← c.self.view_is) (ready_stays c.self.inside.terrain _ c.self.inside.chests.entries
    c.args.place.now there.0 there.1)

pub invariant_of-self-2 : goal.invariant_of-self-2
invariant_of-self-2 c =
    let none = found_unindexed c.args.place.now c.self.inside.columns.items
    c.self.inside.index.entries c.self.invariant.1 (sym c.index_at.ensures ∙
    not_there c.index_at.result (sym c.if-is_some.ensures)) in (
      push_keeps _ c.self.inside.columns.items _ _ c.args.place.now _ c.in_ok-push_ready.ensures.ok
          (fresh_new _ _ _ _ c.requires c.in_ok-column.ensures c.new-ready.ensures)
          c.self.invariant.0 none,
      c.push_ready.ensures.indexed,
      upkeep_push _ c.args.place.now c.self.inside.columns.items _ _ _
          c.in_ok-push_ready.ensures.ok (fresh_new _ _ _ _ c.requires c.in_ok-column.ensures
          c.new-ready.ensures) none (c.make_room.ensures c.self.inside.columns.items c.self.invariant.2),
    )

pub returns-clause-ok : goal.returns-clause-ok
returns-clause-ok c =
    let none = found_unindexed c.args.place.now c.self.inside.columns.items
    c.self.inside.index.entries c.self.invariant.1 (sym c.index_at.ensures ∙
    not_there c.index_at.result (sym c.if-is_some.ensures)) in
    rw (← c.self.view_is) (push_land _ c.self.inside.columns.items _ _ c.args.place.now _
    c.in_ok-push_ready.ensures.ok (fresh_new _ _ _ _ c.requires c.in_ok-column.ensures
    c.new-ready.ensures) c.self.invariant.0 none)
