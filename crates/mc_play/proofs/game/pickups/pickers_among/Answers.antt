use Rattle.std.proofs.lemmas.List.{drop_more}
use Rattle.mc_play.specs.Picking.{picker}
use Rattle.mc_play.proofs.Stowing.{found_next}
use Rattle.mc_play.proofs.game.pickups.pickers_among.Goals as goal

pub loop-entity-preserved : goal.loop-entity-preserved
loop-entity-preserved c =
    found_next (picker c.args.players.now) _ _ _ _ _ _
    (drop_more c.args.entities.now c.loop-entity.entity-index _ c.loop-entity-test.true)
    c.loop-entity.invariant c.in_ok-put_picker.ensures
