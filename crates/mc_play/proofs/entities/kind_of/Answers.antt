use Rattle.std.proofs.Common.{w32}
use Rattle.std.proofs.lemmas.Int.{to_z-of_z}
use Rattle.mc_model.specs.Things.{hand_of, kind_of_item}
use Rattle.mc_play.proofs.Changing.{kind_changed, none_changed}
use Rattle.mc_play.proofs.entities.kind_of.Goals as goal

pub returns-in_err-entity-clause-none : goal.returns-in_err-entity-clause-none
returns-in_err-entity-clause-none c = λ none f. none_changed c.args.eid _ f c.args.folk.now.state
    (to_z-of_z w32 c.args.eid c.ranges.eid) c.in_err-entity.ensures.entity

pub returns-clause-holds : goal.returns-clause-holds
returns-clause-holds c = λ pile. kind_changed c.args.eid _ c.args.folk.now.state _
    c.in_ok-entity.entity.now (hand_of pile) c.all-all.ensures.entities c.all-all.ensures.rise
    (to_z-of_z w32 c.args.eid c.ranges.eid) c.in_ok-entity.ensures.entity

pub returns-clause-lies : goal.returns-clause-lies
returns-clause-lies c = λ item. kind_changed c.args.eid _ c.args.folk.now.state _
    c.in_ok-entity.entity.now (kind_of_item item) c.all-all.ensures.entities
    c.all-all.ensures.rise (to_z-of_z w32 c.args.eid c.ranges.eid) c.in_ok-entity.ensures.entity
