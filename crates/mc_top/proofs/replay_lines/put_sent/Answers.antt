use Rattle.std.proofs.Common.{◌≡◌, ◌<◌, length, rules, ◌∙◌}
use Rattle.std.proofs.lemmas.Result.{err_from_is_err_and}
use Rattle.mc_top.proofs.Tellings.{sent_is, sent_breaks_head, sent_breaks_hex, sent_breaks_end}
use Rattle.mc_top.proofs.Tellings.{not_sent}
use Rattle.mc_top.proofs.replay_lines.put_sent.Goals as goal

pub returns-then-is_empty-clause-taken : goal.returns-then-is_empty-clause-taken
returns-then-is_empty-clause-taken g c w s =
    let none : length c.front.result.now ≡ 0 = search rules in
    not_sent c.args.connection w c.args.server.now c.front.result.now c.args.lines.now.items _ none
    (c.front.ensures.empty w s) s

pub returns-in_err-put-clause-breaks : goal.returns-in_err-put-clause-breaks
returns-in_err-put-clause-breaks g c w s =
    let some : 0 < length c.front.result.now = search rules in
    let head = c.as_bytes.ensures.value ∙ c.in_ok-head.ensures.ok in
    let p = err_from_is_err_and c.from_residual-in_err-put.result
    c.from_residual-in_err-put.ensures.1 in
    rw p.1 (sent_breaks_head c.args.connection w c.front.result.now c.args.lines.now.items
    c.as_bytes.result.now _ _ some (c.front.ensures.empty w s) head c.in_err-put.ensures.breaks)

pub returns-in_err-take_owed-clause-breaks : goal.returns-in_err-take_owed-clause-breaks
returns-in_err-take_owed-clause-breaks g c w s =
    let some : 0 < length c.front.result.now = search rules in
    let head = c.as_bytes.ensures.value ∙ c.in_ok-head.ensures.ok in
    let p = err_from_is_err_and c.from_residual-in_err-take_owed.result
    c.from_residual-in_err-take_owed.ensures.1 in
    rw p.1 (sent_breaks_hex c.args.connection w c.front.result.now c.args.lines.now.items
    c.as_bytes.result.now c.put.new.lines.items _ _ _ some (c.front.ensures.empty w s) head
    c.in_ok-put.ensures.passes (c.in_err-take_owed.ensures.breaks w s))

pub returns-in_err-put-2-clause-breaks : goal.returns-in_err-put-2-clause-breaks
returns-in_err-put-2-clause-breaks g c w s =
    let some : 0 < length c.front.result.now = search rules in
    let head = c.as_bytes.ensures.value ∙ c.in_ok-head.ensures.ok in
    let p = err_from_is_err_and c.from_residual-in_err-put-2.result
    c.from_residual-in_err-put-2.ensures.1 in
    rw p.1 (sent_breaks_end c.args.connection w c.front.result.now c.args.lines.now.items
    c.as_bytes.result.now c.put.new.lines.items c.take_owed.new.lines.items _ _ _ _ some
    (c.front.ensures.empty w s) head c.in_ok-put.ensures.passes
    (c.in_ok-take_owed.ensures.taken w s).1 c.in_err-put-2.ensures.breaks)

pub returns-clause-taken : goal.returns-clause-taken
returns-clause-taken g c w s =
    let some : 0 < length c.front.result.now = search rules in
    let head = c.as_bytes.ensures.value ∙ c.in_ok-head.ensures.ok in
    let taken = c.in_ok-take_owed.ensures.taken w s in (
      taken.0,
      sent_is c.args.connection w c.front.result.now c.args.lines.now.items c.put.new.lines.items
          c.take_owed.new.lines.items c.put-2.new.lines.items c.as_bytes.result.now _ _ _ _ some
          (c.front.ensures.empty w s) head c.in_ok-put.ensures.passes taken.1
          c.in_ok-put-2.ensures.passes,
    )
