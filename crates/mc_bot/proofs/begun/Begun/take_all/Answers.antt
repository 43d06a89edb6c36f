use Rattle.mc_text.proofs.Reading.{cuts_next, none_left}
use Rattle.mc_bot.proofs.Scripts.{lines_fail, lines_next, lines_done}
use Rattle.mc_bot.proofs.begun.Begun.take_all.Goals as goal

pub returns-in-Err : goal.returns-in-Err
returns-in-Err c =
    let read = rw c.in-Some.is at c.loop-rest.invariant in
    rw c.read_at.ensures (lines_fail c.args.text.now c.in-Some.left.now c.cut_line.result.0.now
    c.args.self.now c.loop-rest.number c.loop-rest.size c.loop-rest.self c.take_line.new.self _
    c.in-Err.unread read (cuts_next c.in-Some.left.now c.cut_line.result.0.now
    c.cut_line.result.1 c.cut_line.ensures) c.in-Err.ensures.taken)

pub loop-rest-preserved : goal.loop-rest-preserved
loop-rest-preserved c =
    let read = rw c.in-Some.is at c.loop-rest.invariant in
    lines_next c.args.text.now c.in-Some.left.now c.cut_line.result.0.now c.args.self.now
    c.loop-rest.number c.loop-rest.size c.loop-rest.self c.take_line.new.self _ read
    (cuts_next c.in-Some.left.now c.cut_line.result.0.now c.cut_line.result.1 c.cut_line.ensures)
    c.in_default-take_line.ensures.taken c.in_default-take_line.ensures.within

pub returns : goal.returns
returns c =
    let read = rw (none_left c.loop-rest.rest c.in_default.not-Some) at c.loop-rest.invariant in
    lines_done c.args.text.now c.args.self.now c.loop-rest.number c.loop-rest.size c.loop-rest.self
    read
