use Rattle.std.proofs.lemmas.List.{drop_more}
use Rattle.std.proofs.lemmas.List.Elements.{All-get_or}
use Rattle.mc_entities.specs.declared.entity.Entity.{Entity}
use Rattle.mc_entities.specs.Kinds.{IsKind}
use Rattle.mc_play.specs.Picking.{ripe_at}
use Rattle.mc_play.proofs.Stowing.{found_next}
use Rattle.mc_play.proofs.ripe.ripe_among.Goals as goal

pub put_ripe-requires : goal.put_ripe-requires
put_ripe-requires c = All-get_or (λ (e : Entity). IsKind e.kind) c.args.entities.now
    c.loop-entity.entity-index _ c.loop-entity-test.true c.requires

pub loop-entity-preserved : goal.loop-entity-preserved
loop-entity-preserved c =
    found_next (ripe_at c.args.age c.args.spot.now) _ _ _ _ _ _
    (drop_more c.args.entities.now c.loop-entity.entity-index _ c.loop-entity-test.true)
    c.loop-entity.invariant c.in_ok-put_ripe.ensures
