use Rattle.mc_text.proofs.Reading.{cuts_next, none_left}
use Rattle.mc_words.proofs.Scripts.{script_start, script_next, script_fault, script_done}
use Rattle.mc_words.proofs.script.Script.read.Goals as goal

pub loop-rest-init : goal.loop-rest-init
loop-rest-init c = rw c.new-events.ensures.items (script_start c.args.text.now)

pub returns-in-Err-Fault : goal.returns-in-Err-Fault
returns-in-Err-Fault c =
    let read = rw c.in-Some.is at c.loop-rest.invariant in
    let fault = rw c.in-Err-Fault.field-0-is at c.in-Err-Fault.ensures in
    rw c.in-Err-Fault.kind-is (script_fault c.args.text.now c.in-Some.left.now
    c.cut_line.result.0.now c.loop-rest.count c.loop-rest.size c.loop-rest.before
    _ c.in-Err-Fault.kind c.loop-rest.events.items read (cuts_next c.in-Some.left.now
    c.cut_line.result.0.now c.cut_line.result.1 c.cut_line.ensures) fault)

pub loop-rest-preserved : goal.loop-rest-preserved
loop-rest-preserved c =
    let read = rw c.in-Some.is at c.loop-rest.invariant in
    rw c.in_ok-before-in-Ok.ensures.next
    (script_next c.args.text.now c.in-Some.left.now c.cut_line.result.0.now c.loop-rest.count
    c.loop-rest.size c.loop-rest.before _ c.in-Ok.event c.loop-rest.events.items
    c.put_event.new.events.items read (cuts_next c.in-Some.left.now c.cut_line.result.0.now
    c.cut_line.result.1 c.cut_line.ensures) c.in-Ok.ensures c.in_ok-before-in-Ok.ensures.put)

pub returns : goal.returns
returns c =
    let read = rw (none_left c.loop-rest.rest c.in_default.not-Some) at c.loop-rest.invariant in
    script_done c.args.text.now c.loop-rest.count c.loop-rest.size c.loop-rest.before
    c.loop-rest.events.items read
