use Rattle.std.proofs.Common.{◌∙◌, ◌∷◌, [], get_or}
use Rattle.mc_events.proofs.Dismissing.{dismissed_good, dismissed_next}
use Rattle.mc_events.proofs.server.ticking.dismiss.Goals as goal

pub loop-id-preserved : goal.loop-id-preserved
loop-id-preserved c =
    let cs = c.args.connections.now in
    let ids = c.args.ids.now in
    let i = c.loop-id.id-index in
    let v = c.loop-id.game in
    let h = c.loop-id.invariant in
    let made = c.in_ok-dismiss_one.ensures in
    record {
      game = dismissed_next cs ids i c.args.game.now v c.dismiss_one.new.game c.loop-id-test.true
          h.game made.game;
      ready = made.ready ∙ h.ready;
      good = λ good. dismissed_good cs (get_or ids i 0 ∷ []) v c.dismiss_one.new.game made.game
          (h.good good);
      listed = λ good was. made.listed (h.good good) (h.listed good was);
      last = made.last ∙ h.last;
    }
