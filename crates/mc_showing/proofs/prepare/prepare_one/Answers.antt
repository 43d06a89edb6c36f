use Rattle.std.proofs.Common.{sym, ap, ◌∙◌}
use Rattle.std.proofs.lemmas.Result.{on_ok_weaker}
use Rattle.std.specs.FinMap.{FinMap, get}
use Rattle.std.specs.Ordering.{nat_cmp}
use Rattle.mc_model.specs.declared.player.Player.{Player}
use Rattle.mc_showing.proofs.ColumnFacts.{loaded_are}
use Rattle.mc_showing.proofs.LookFacts.{one_prepared, one_within}
use Rattle.mc_showing.proofs.ReadyFacts.{ready_for}
use Rattle.mc_showing.proofs.prepare.prepare_one.Goals as goal

pub returns-clause-ready : goal.returns-clause-ready
returns-clause-ready g c =
    let p = c.in-Some.player.now in
    on_ok_weaker c.prepare_view.result
    (ready_for c.args.game.now c.prepare_view.new.game c.args.connection p c.args.mark.now
    _ (ap (λ (m : FinMap nat_cmp Player). get m c.args.connection) (sym c.players.ensures)
    ∙ sym c.in-Some.ensures)
    (loaded_are c.args.game.now.game p c.args.mark.now c.view_of-view.result
    c.view_of-view.ensures) c.prepare_view.ensures.same)
    c.prepare_view.ensures.ready

pub returns-clause-prepared : goal.returns-clause-prepared
returns-clause-prepared g c =
    let v = c.args.game.now in
    let p = c.in-Some.player.now in
    on_ok_weaker c.prepare_view.result
    (one_prepared v.settled v.game c.args.mark.now (get v.game.players c.args.connection) p
    c.view_of-view.result
    (ap (λ (m : FinMap nat_cmp Player). get m c.args.connection) (sym c.players.ensures)
    ∙ sym c.in-Some.ensures) c.view_of-view.ensures c.args.encoded.now c.prepare_view.new.encoded)
    c.prepare_view.ensures.prepared

pub returns-clause-bounded : goal.returns-clause-bounded
returns-clause-bounded g c =
    let v = c.args.game.now in
    let p = c.in-Some.player.now in
    one_within v.settled v.game c.args.mark.now (get v.game.players c.args.connection) p
    c.view_of-view.result
    (ap (λ (m : FinMap nat_cmp Player). get m c.args.connection) (sym c.players.ensures)
    ∙ sym c.in-Some.ensures) c.view_of-view.ensures c.args.steps.now c.prepare_view.new.steps
    c.prepare_view.ensures.bounded
