use Rattle.std.proofs.Common.{drop}
use Rattle.mc_bot.specs.Playing.{lines_played, rules_of}
use Rattle.mc_bot.proofs.Loops.{Underway}
use Rattle.mc_bot.proofs.playing.Playing.play_lines.Given as goal

abbrev pub invariant-loop-line : goal.invariant-loop-line
invariant-loop-line g l =
    let rules = rules_of g.S.Seer.refused g.S.Seer.taken g.S.Seer.asked g.S.Seer.sent
    g.S.Seer.block_at g.S.Seer.slot_at g.S.Seer.window_at g.S.Seer.text in
    Underway (lines_played rules l.lines) (lines_played rules (drop l.line-index l.lines))
    (record { seen = l.fn.seer; keeping = l.fn.self; told = g.K.Link.told l.fn.link })
    (record { seen = l.seer; keeping = l.self; told = g.K.Link.told l.link })
    (g.K.Link.stage l.link) (g.K.Link.counts l.fn.link).faults (g.K.Link.counts l.link).faults
