use Rattle.std.proofs.Common.{refl}
use Rattle.std.proofs.lemmas.Result.{IfOk-weaker, on_ok_weaker}
use Rattle.mc_model.specs.declared.stage.Stage.{Stage}
use Rattle.mc_model.specs.Talk.{request_of}
use Rattle.mc_links.specs.contracts.connection.Connection.{the_view}
use Rattle.mc_links.proofs.Decoding.{closed_next, closed_step, next_told, step_told}
use Rattle.mc_links.proofs.connection.Connection.decode.Goals as goal

pub returns-in-None-clause-step : goal.returns-in-None-clause-step
returns-in-None-clause-step c =
    IfOk-weaker c.answer.result _ _
    (λ step e. step_told (the_view c.self.inside) c.args.self.now c.self.view_is
    c.self.inside.cause c.in-None.is c.self.inside.session refl refl
    (λ (stage : Stage). request_of stage c.args.most c.args.online c.args.frame.now) step e)
    c.answer.ensures.step

pub returns-in-None-clause-next : goal.returns-in-None-clause-next
returns-in-None-clause-next c =
    on_ok_weaker c.answer.result
    (λ e. next_told (the_view c.self.inside) c.args.self.now c.self.view_is
    c.self.inside.cause c.in-None.is c.self.inside.session refl refl
    (λ (stage : Stage). request_of stage c.args.most c.args.online c.args.frame.now)
    c.answer.new.session e)
    c.answer.ensures.next

pub returns-in-Some-clause-step : goal.returns-in-Some-clause-step
returns-in-Some-clause-step c =
    closed_step (the_view c.self.inside) c.args.self.now c.self.view_is c.self.inside.cause
    c.in-Some.field-0 c.in-Some.is c.self.inside.session.stage refl c.args.most c.args.online
    c.args.frame.now

pub returns-in-Some-clause-next : goal.returns-in-Some-clause-next
returns-in-Some-clause-next c =
    closed_next (the_view c.self.inside) c.args.self.now c.self.view_is c.self.inside.cause
    c.in-Some.field-0 c.in-Some.is c.self.inside.session.stage refl c.args.most c.args.online
    c.args.frame.now
