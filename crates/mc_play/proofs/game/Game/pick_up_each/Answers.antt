use Rattle.std.proofs.Common.{◌∙◌}
use Rattle.std.proofs.lemmas.List.{drop_more}
use Rattle.mc_play.specs.Picking.{picked_by}
use Rattle.mc_play.proofs.Stowing.{done_next}
use Rattle.mc_play.proofs.game.Game.pick_up_each.Goals as goal

pub loop-connection-preserved : goal.loop-connection-preserved
loop-connection-preserved c =
    let ks = c.args.connections.now in
    let i = c.loop-connection.connection-index in
    let h = c.loop-connection.invariant in
    record {
      game = done_next picked_by ks _ _ _ c.args.self.now c.loop-connection.self
          c.pick_up.new.self (drop_more ks i 0 c.loop-connection-test.true) h.game
          c.in_ok-pick_up.ensures.is;
      ready = c.in_ok-pick_up.ensures.ready ∙ h.ready;
    }
