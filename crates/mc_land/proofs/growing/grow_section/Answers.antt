use Rattle.std.proofs.Common.{length, ap, ◌∙◌}
use Rattle.std.proofs.lemmas.List.FromFn.{length-map-range_with_len}
use Rattle.mc_column.specs.Sizes.{section_cells}
use Rattle.mc_land.proofs.GrownFacts.{grown_air, grown_more}
use Rattle.mc_land.proofs.growing.grow_section.Goals as goal

pub returns-then-filled-eq0 : goal.returns-then-filled-eq0
returns-then-filled-eq0 c = grown_air _ _ c.args.column.now c.args.i _ c.filled_in-filled.ensures
    c.if-filled-eq0.true

pub put_section-requires-clause-sized : goal.put_section-requires-clause-sized
put_section-requires-clause-sized c = ap length (c.deref.ensures.value ∙
    c.in_ok-push_section.ensures) ∙ length-map-range_with_len _ 0 section_cells

pub returns : goal.returns
returns c = λ grown. grown_more _ _ c.args.column.now _ c.args.i _ c.requires.inside
    (c.deref.ensures.value ∙ c.in_ok-push_section.ensures) c.in_ok-put_section.ensures.ok grown
