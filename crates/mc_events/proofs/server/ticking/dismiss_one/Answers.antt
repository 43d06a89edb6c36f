use Rattle.std.proofs.Common.{◌∙◌, sym, ap}
use Rattle.std.specs.FinMap.{FinMap, get}
use Rattle.std.specs.Ordering.{nat_cmp}
use Rattle.mc_model.specs.declared.player.Player.{Player}
use Rattle.mc_play.specs.Kept.{GameValue, played}
use Rattle.mc_events.proofs.Dismissing.{dismissed_none, listed_left}
use Rattle.mc_events.proofs.server.ticking.dismiss_one.Goals as goal

pub returns-in_default-find-clause-game : goal.returns-in_default-find-clause-game
returns-in_default-find-clause-game c =
    let v = c.args.game.now in
    let none = dismissed_none c.args.connections.now c.args.k v.game
    (ap (λ (m : FinMap nat_cmp Player). get m c.args.k) (sym c.players.ensures)
    ∙ sym c.in_default-find.ensures) in
    λ i. played v (sym none i) v.aside

pub returns-clause-listed : goal.returns-clause-listed
returns-clause-listed c = λ good was.
    listed_left c.args.game.now.game c.leave.new.self.game c.args.k c.in-Some-find.player.now
    c.args.list.now c.remove.new.self good was
    (ap (λ (m : FinMap nat_cmp Player). get m c.args.k) (sym c.players.ensures)
    ∙ sym c.in-Some-find.ensures)
    c.remove.ensures (ap (λ (v : GameValue). v.game) c.in_ok-leave.ensures.is)
