use Rattle.std.proofs.lemmas.Int.{to_z-of_z}
use Rattle.std.specs.Int.{w16}
use mir.Val.{SFits}
use Rattle.std.proofs.lemmas.Result.{err_from_is_err_and}
use Rattle.mc_bot.specs.Playing.{rules_of}
use Rattle.mc_bot.proofs.Lines.{act_lost, act_fails, act_comes, act_goes_on}
use Rattle.mc_bot.proofs.playing.Playing.act.Goals as goal

pub returns-in_err-put_act-clause-step : goal.returns-in_err-put_act-clause-step
returns-in_err-put_act-clause-step g c =
    let rules = rules_of g.S.Seer.refused g.S.Seer.taken g.S.Seer.asked g.S.Seer.sent
    g.S.Seer.block_at g.S.Seer.slot_at g.S.Seer.window_at g.S.Seer.text in
    let p = err_from_is_err_and c.from_residual.result c.from_residual.ensures.1 in
    rw (p.1, p.2) (act_lost rules c.args.act.now _ (g.K.Link.stage c.args.link.now))

pub returns-in_err-send_bytes-clause-step : goal.returns-in_err-send_bytes-clause-step
returns-in_err-send_bytes-clause-step g c =
    let rules = rules_of g.S.Seer.refused g.S.Seer.taken g.S.Seer.asked g.S.Seer.sent
    g.S.Seer.block_at g.S.Seer.slot_at g.S.Seer.window_at g.S.Seer.text in
    let p = err_from_is_err_and c.from_residual-in_err-send_bytes.result
    c.from_residual-in_err-send_bytes.ensures.1 in
    let fits : SFits w16 c.self.inside.number = search in
    let asked = rw (c.new-bytes.ensures.items, to_z-of_z w16 c.self.inside.number fits) at
    c.in_ok-put_act.ensures in
    let sent = rw c.as_slice.ensures.value at c.in_err-send_bytes.ensures.sent in
    rw (p.1, p.2, ← c.self.view_is) (act_fails rules c.args.act.now _ c.put_act.new.seer
    c.put_act.new.out.items _ _ _ asked sent)

pub returns-clause-step : goal.returns-clause-step
returns-clause-step g c =
    let rules = rules_of g.S.Seer.refused g.S.Seer.taken g.S.Seer.asked g.S.Seer.sent
    g.S.Seer.block_at g.S.Seer.slot_at g.S.Seer.window_at g.S.Seer.text in
    let fits : SFits w16 c.self.inside.number = search in
    let asked = rw (c.new-bytes.ensures.items, to_z-of_z w16 c.self.inside.number fits) at
    c.in_ok-put_act.ensures in
    let sent = rw c.as_slice.ensures.value at c.in_ok-send_bytes.ensures.sent in
    let ready = rw (← c.self.view_is) at c.requires.ready in
    rw (
      to_z-of_z w16 c.number_past-self-inside.result search,
      c.number_past-self-inside.ensures,
      to_z-of_z w16 c.self.inside.number fits,
      ← c.self.view_is,
    ) (
      act_comes rules c.args.act.now _ c.put_act.new.seer c.put_act.new.out.items _ asked sent,
      act_goes_on _ _ _ _ ready c.in_ok-send_bytes.ensures.stands,
    )
