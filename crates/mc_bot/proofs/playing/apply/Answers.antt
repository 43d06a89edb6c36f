use Rattle.std.proofs.Common.{sym}
use Rattle.mc_bot.proofs.Taking.{closed_taken}
use Rattle.mc_bot.specs.Playing.{rules_of}
use Rattle.mc_bot.proofs.playing.apply.Goals as goal

pub returns-in-Some-clause-taken : goal.returns-in-Some-clause-taken
returns-in-Some-clause-taken g c =
    let rules = rules_of g.S.Seer.refused g.S.Seer.taken g.S.Seer.asked g.S.Seer.sent
    g.S.Seer.block_at g.S.Seer.slot_at g.S.Seer.window_at g.S.Seer.text in
    let is = rw c.in-Some.is at c.farewell.ensures in
    closed_taken rules _ _ _ _ _ (sym is) c.closed_by.ensures
