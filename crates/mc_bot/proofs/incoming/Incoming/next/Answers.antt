use Rattle.std.proofs.lemmas.Result.{err_from_is_err_and}
use Rattle.mc_bot.proofs.Arrivals.{waited_read_fails, waited_read_more}
use Rattle.mc_bot.proofs.incoming.Incoming.next.Goals as goal

pub returns-in_err-read-in-More-clause-next : goal.returns-in_err-read-in-More-clause-next
returns-in_err-read-in-More-clause-next g c =
    let p = err_from_is_err_and c.from_residual-in_err-read-in-More.result
    c.from_residual-in_err-read-in-More.ensures.1 in
    let took = rw c.in-More.is at c.in_ok-payload.ensures.takes in
    rw (p.1, p.2) (waited_read_fails _ c.loop-payload.self c.take.new.self _ _ _ _ _ _ _ _ _ _ _ _
    c.loop-payload.invariant c.in_ok-payload.ensures.kept took c.in_err-read-in-More.ensures.read)

pub loop-payload-preserved : goal.loop-payload-preserved
loop-payload-preserved g c =
    let took = rw c.in-More.is at c.in_ok-payload.ensures.takes in
    waited_read_more _ c.loop-payload.self c.take.new.self _ _ _ _ _ _ _ _ _ _ _ _
    c.loop-payload.invariant c.in_ok-payload.ensures.kept took
    c.in_ok-read-in-More.ensures.read c.in_ok-read-in-More.ensures.link.1
    c.in_ok-read-in-More.ensures.fewer
