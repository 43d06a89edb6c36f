use Rattle.std.proofs.Common.{ap, sym, ◌∙◌}
use Rattle.std.proofs.lemmas.Result.{on_ok_weaker}
use Rattle.mc_model.specs.Talk.{request_of}
use Rattle.mc_links.specs.Kept.{ConnectionValue, state_of}
use Rattle.mc_links.proofs.Performing.{frame_becomes, step_fits}
use Rattle.mc_links.proofs.seat.on_frame.Goals as goal

pub perform-requires-clause-fits : goal.perform-requires-clause-fits
perform-requires-clause-fits c = λ packet is.
    let l = c.args.connection.now.link in
    step_fits (state_of l) l.stage c.most.result c.in_ok-online.online c.args.frame.now packet
    (λ i. (c.type_inv.frame i).fits) (sym is ∙ c.in_ok-step.ensures.step)

pub returns : goal.returns
returns c = λ unread.
    let d = c.args.connection.now in
    on_ok_weaker c.perform.result
    (λ b. frame_becomes c.args.game.now c.perform.new.game d c.decode.new.self
    c.perform.new.connection c.most.result c.in_ok-online.online c.args.frame.now unread
    c.most.ensures.is c.in_ok-online.ensures c.in_ok-step.ensures.next b)
    (c.perform.ensures d.link
    (request_of d.link.stage c.most.result c.in_ok-online.online c.args.frame.now) unread
    (ap (λ (e : ConnectionValue). e.link) c.in_ok-step.ensures.next) c.in_ok-step.ensures.step)
