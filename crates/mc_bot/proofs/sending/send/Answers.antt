use Rattle.mc_bot.proofs.Sends.{sent_more}
use Rattle.mc_bot.proofs.sending.send.Goals as goal

pub loop-rest-preserved : goal.loop-rest-preserved
loop-rest-preserved g c =
    sent_more _ _ _ _ _ _ _ _ _ _ _ _ _ c.loop-rest.rest.now c.in_ok-count.count
    c.loop-rest.invariant
    c.in_ok-count.ensures.took.1
    c.in_ok-count.ensures.tells
    c.write.ensures.stands
    c.write.ensures.falls.faults
    c.write.ensures.fewer
