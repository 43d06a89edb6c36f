use Rattle.std.proofs.Common.{◌∷◌, [], sym, subst, ◌∙◌}
use Rattle.mc_wire.proofs.LobbyCalls.{HasLogged-trans}
use Rattle.mc_model.specs.Log.{logged}
use Rattle.mc_server.specs.TurnParts.{HoldsDone}
use Rattle.mc_server.proofs.Closing.{pending_hold}
use Rattle.mc_server.proofs.Turned.{after_input, turned}
use Rattle.mc_server.proofs.service.turn.take_turn.Goals as goal

pub returns-clause-turned : goal.returns-clause-turned
returns-clause-turned g c = λ w entry st is.
    let v = logged w (entry ∷ []) in
    let stands = after_input entry c.args.input w _ is
    (c.in_ok-event.ensures.follows w st) in
    let named = c.in_ok-pending.ensures v stands.stands in
    let sent = c.in_ok-send_all.ensures.sent v stands.stands (c.deref.ensures.value ∙ named) in
    turned entry c.args.input _ _ _ w c.send_all.new.server _
    c.close_all.result is stands.plans sent
    (c.close_all.ensures.closed (logged v sent.writes) sent.adds.stands
    (subst (HoldsDone (logged v sent.writes)) (sym (c.deref-2.ensures.value ∙ named))
    (pending_hold v (logged v sent.writes) sent.numbers sent.others)))

pub returns-clause-logs : goal.returns-clause-logs
returns-clause-logs g c = HasLogged-trans _ _ _ c.send_all.ensures.logs c.close_all.ensures.logs
