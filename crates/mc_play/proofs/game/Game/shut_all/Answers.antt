use Rattle.std.proofs.Common.{ℕ, List, ap, arith, length}
use Rattle.std.proofs.lemmas.List.{drop_more}
use Rattle.mc_model.specs.Game.{Game}
use Rattle.mc_model.specs.Windows.{shut}
use Rattle.mc_play.specs.Kept.{by_player}
use Rattle.mc_play.proofs.Stowing.{done_next}
use Rattle.mc_play.proofs.game.Game.shut_all.Goals as goal

pub loop-connection-preserved : goal.loop-connection-preserved
loop-connection-preserved c =
    let ks = c.args.connections.now in
    let i = c.loop-connection.connection-index in
    let h = c.loop-connection.invariant in
    let next = drop_more ks i 0 c.loop-connection-test.true in
    let more = ap (λ (l : List ℕ). length l) next in
    record {
      game = done_next (λ (g : Game) (k : ℕ). by_player k (shut k) g) ks _ _ _ c.args.self.now
          c.loop-connection.self c.shut.new.self next h.game c.shut.ensures.is;
      places = omega (arith, h.places, more, c.shut.ensures.one.1);
    }
