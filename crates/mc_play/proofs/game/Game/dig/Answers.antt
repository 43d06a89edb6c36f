use Rattle.std.proofs.Common.{◌≡◌, false, subst}
use Rattle.std.proofs.lemmas.Result.{on_ok_weaker}
use Rattle.std.specs.Prelude.{OnOk}
use Rattle.mc_model.specs.Digging.{can_dig}
use Rattle.mc_model.specs.Game.{Game}
use Rattle.mc_play.specs.Kept.{played}
use Rattle.mc_play.specs.contracts.game.Game.{the_view}
use Rattle.mc_play.proofs.Reaching.{is_dug_by, is_far, is_kept, is_noted_by, is_too_much}
use Rattle.mc_play.proofs.Steps.{in_play}
use Rattle.mc_play.proofs.game.Game.dig.Goals as goal

pub returns-in-Some-reach-clause-ok : goal.returns-in-Some-reach-clause-ok
returns-in-Some-reach-clause-ok c =
    subst (λ (g : Game). OnOk c.take_out.result
    (c.take_out.new.self ≡ played c.args.self.now g c.take_out.new.self.aside))
    (is_dug_by c.args.connection c.in-Some.player.now c.args.cell c.in-Some-reach.state
    c.args.self.now (in_play c.args.connection c.self.view_is c.in-Some.ensures)
    c.in-Some-reach.ensures.is c.if-is_dug.ensures c.if-may_take_out.ensures)
    c.take_out.ensures.ok

pub returns-in_default-reach-clause-ok : goal.returns-in_default-reach-clause-ok
returns-in_default-reach-clause-ok c =
    let p = c.in-Some.player.now in
    let cell = c.args.cell in
    let u = c.args.self.now in
    let kept : false ≡ can_dig p cell u.game = elim c.in_default-reach.branch [
      | goal.in_default-reach-via-in-Some-reach+then-is_dug+else-may_take_out w ↦
          is_too_much p cell u w.if-may_take_out.ensures
      | goal.in_default-reach-via-in-Some-reach+else-is_dug w ↦
          is_kept p cell w.in-Some-reach.state u w.in-Some-reach.ensures.is w.if-is_dug.ensures
      | goal.in_default-reach-via-in_default-reach w ↦ is_far p cell u w.in_default-reach.ensures.is
    ] in
    on_ok_weaker c.note_cell.result (λ noted. is_noted_by c.args.connection p cell u
    (the_view c.self.inside) c.note_cell.new.self _
    (in_play c.args.connection c.self.view_is c.in-Some.ensures) kept c.self.view_is noted)
    c.note_cell.ensures.ok
