use Rattle.mc_bot.specs.Playing.{packets_taken, rules_of}
use Rattle.mc_bot.proofs.Loops.{Underway}
use Rattle.mc_bot.proofs.playing.Playing.take_many.Given as goal

abbrev pub invariant-loop-left : goal.invariant-loop-left
invariant-loop-left g l =
    let rules = rules_of g.S.Seer.refused g.S.Seer.taken g.S.Seer.asked g.S.Seer.sent
    g.S.Seer.block_at g.S.Seer.slot_at g.S.Seer.window_at g.S.Seer.text in
    Underway (packets_taken rules l.fn.count) (packets_taken rules l.left)
    (record { seen = l.fn.seer; keeping = l.fn.self; told = g.K.Link.told l.fn.link })
    (record { seen = l.seer; keeping = l.self; told = g.K.Link.told l.link })
    (g.K.Link.stage l.link) (g.K.Link.counts l.fn.link).faults (g.K.Link.counts l.link).faults

abbrev pub decreases-loop-left : goal.decreases-loop-left
decreases-loop-left g l = l.left
