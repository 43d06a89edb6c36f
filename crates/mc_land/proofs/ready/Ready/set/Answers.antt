use Rattle.std.proofs.Common.{eqb, not, refl, arith, ◌∙◌}
use Rattle.mc_column.specs.SizesLaws.{cells-is}
use Rattle.mc_land.proofs.PlaceFacts.{terrain_inside}
use Rattle.mc_column.specs.Cells.{cell_index}
use Rattle.mc_land.proofs.TouchedFacts.{bit_at_most, few_changes, set_counts, kept_set, sorted_at}
use Rattle.mc_land.proofs.TouchedFacts.{index_within}
use Rattle.mc_land.proofs.ready.Ready.set.Goals as goal

pub overflow_add-self : goal.overflow_add-self
overflow_add-self c =
    let few = few_changes c.self.inside.terrain c.self.inside.place c.self.inside.column.states in
    let one = bit_at_most (not (eqb c.args.state c.own_state-own.result)) in
    omega (arith, few, one, c.self.invariant.counted, cells-is, c.differs.ensures)

pub overflow_sub-self : goal.overflow_sub-self
overflow_sub-self c =
    let counts = set_counts _ _ _ _ _ (cell_index c.args.x c.args.y c.args.z) _ _ c.args.state _ _
    c.self.invariant (index_within _ _ _ c.requires.x_inside c.ranges.y.fits
    c.requires.z_inside) c.in_ok-old.ensures.old (c.own_state-own.ensures ∙
    terrain_inside c.self.inside.terrain c.self.inside.place c.args.x c.args.y c.args.z _ _
    c.requires.x_inside c.requires.z_inside refl refl) c.differs.ensures c.differs-2.ensures in
    omega (arith, counts.1)

pub touch-requires-clause-sorted : goal.touch-requires-clause-sorted
touch-requires-clause-sorted c =
    sorted_at _ c.self.inside.column.states _ _ _ (index_within _ _ _ c.requires.x_inside
    c.ranges.y.fits c.requires.z_inside) (c.reserve.ensures.items ∙
    c.self.invariant.touched_are) c.index_of.ensures

pub invariant_of-self-2 : goal.invariant_of-self-2
invariant_of-self-2 c =
    let counts = set_counts _ _ _ _ _ (cell_index c.args.x c.args.y c.args.z) _ _ c.args.state _ _
    c.self.invariant (index_within _ _ _ c.requires.x_inside c.ranges.y.fits
    c.requires.z_inside) c.in_ok-old.ensures.old (c.own_state-own.ensures ∙
    terrain_inside c.self.inside.terrain c.self.inside.place c.args.x c.args.y c.args.z _ _
    c.requires.x_inside c.requires.z_inside refl refl) c.differs.ensures c.differs-2.ensures in
    (kept_set _ _ _ _ _ _ _ _ _ _ _ (cell_index c.args.x c.args.y c.args.z) c.args.state
    c.self.invariant (index_within _ _ _ c.requires.x_inside c.ranges.y.fits
    c.requires.z_inside) c.in_ok-old.ensures.new c.reserve.ensures.items c.index_of.ensures
    c.in_ok-old.ensures.old counts.0 c.touch.ensures).0

pub returns-clause-ok : goal.returns-clause-ok
returns-clause-ok c =
    let counts = set_counts _ _ _ _ _ (cell_index c.args.x c.args.y c.args.z) _ _ c.args.state _ _
    c.self.invariant (index_within _ _ _ c.requires.x_inside c.ranges.y.fits
    c.requires.z_inside) c.in_ok-old.ensures.old (c.own_state-own.ensures ∙
    terrain_inside c.self.inside.terrain c.self.inside.place c.args.x c.args.y c.args.z _ _
    c.requires.x_inside c.requires.z_inside refl refl) c.differs.ensures c.differs-2.ensures in
    rw (← c.self.view_is) (kept_set _ _ _ _ _ _ _ _ _ _ _ (cell_index c.args.x c.args.y c.args.z)
    c.args.state c.self.invariant (index_within _ _ _ c.requires.x_inside c.ranges.y.fits
    c.requires.z_inside) c.in_ok-old.ensures.new c.reserve.ensures.items c.index_of.ensures
    c.in_ok-old.ensures.old counts.0 c.touch.ensures).1
