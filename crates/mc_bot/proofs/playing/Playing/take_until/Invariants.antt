use Rattle.mc_bot.specs.Arriving.{to_come}
use Rattle.mc_bot.specs.Playing.{rules_of}
use Rattle.mc_bot.proofs.Lines.{until}
use Rattle.mc_bot.proofs.Loops.{Underway}
use Rattle.mc_bot.proofs.playing.Playing.take_until.Given as goal

abbrev pub invariant-loop-cell : goal.invariant-loop-cell
invariant-loop-cell g l =
    let rules = rules_of g.S.Seer.refused g.S.Seer.taken g.S.Seer.asked g.S.Seer.sent
    g.S.Seer.block_at g.S.Seer.slot_at g.S.Seer.window_at g.S.Seer.text in
    Underway (until rules l.fn.cell l.fn.state) (until rules l.fn.cell l.fn.state)
    (record { seen = l.fn.seer; keeping = l.fn.self; told = g.K.Link.told l.fn.link })
    (record { seen = l.seer; keeping = l.self; told = g.K.Link.told l.link })
    (g.K.Link.stage l.link) (g.K.Link.counts l.fn.link).faults (g.K.Link.counts l.link).faults

abbrev pub decreases-loop-cell : goal.decreases-loop-cell
decreases-loop-cell g l = to_come (g.K.Link.answers l.link) l.self.incoming.splitting
