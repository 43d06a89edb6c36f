use Rattle.std.proofs.Common.{◌+◌, ◌∙◌, List, map, drop, sym, ap}
use Rattle.std.proofs.lemmas.List.{drop_more}
use Rattle.std.proofs.Math.ListN.{drop_of_length-le}
use Rattle.mc_entities.specs.declared.entity.Entity.{Entity}
use Rattle.mc_model.specs.Sight.{others}
use Rattle.mc_told.specs.Telling.{rows_in, told_row}
use Rattle.mc_told.proofs.Told.{step_past}
use Rattle.mc_told.proofs.unchanged.are_as_told.Goals as goal

pub loop-entity-init : goal.loop-entity-init
loop-entity-init c = λ same. sym c.rest-rest.ensures ∙ same

pub loop-entity-preserved : goal.loop-entity-preserved
loop-entity-preserved c = λ same.
    let v = c.args.view.now in
    let es = c.args.entities.now in
    let i = c.loop-entity.entity-index in
    let is = drop_more es i _ c.loop-entity-test.true in
    c.loop-entity.invariant (step_past v.view v.me _ (drop i es) (drop (i + 1) es) is
    c.loop-entity.rest c.pass_entity.new.rest (c.pass_entity.ensures c.if-not-pass_entity.false)
    same)

pub returns : goal.returns
returns c = λ empty.
    let v = c.args.view.now in
    c.loop-entity.invariant (c.is_empty.ensures.0 empty
    ∙ sym (ap (λ (es : List Entity). map told_row (rows_in v.view (others v.me es)))
    (drop_of_length-le c.args.entities.now c.loop-entity-test.false)))
