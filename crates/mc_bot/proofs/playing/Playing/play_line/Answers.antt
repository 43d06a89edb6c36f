use Rattle.mc_bot.specs.Playing.{rules_of}
use Rattle.mc_bot.proofs.Lines.{wait_line, until_line, expect_line, other_line}
use Rattle.mc_bot.proofs.playing.Playing.play_line.Goals as goal

pub returns-in-Wait-clause-step : goal.returns-in-Wait-clause-step
returns-in-Wait-clause-step g c =
    let rules = rules_of g.S.Seer.refused g.S.Seer.taken g.S.Seer.asked g.S.Seer.sent
    g.S.Seer.block_at g.S.Seer.slot_at g.S.Seer.window_at g.S.Seer.text in
    wait_line rules _ _ _ _ _ _ _ (search) c.take_many.ensures.step

pub returns-in-Until-clause-step : goal.returns-in-Until-clause-step
returns-in-Until-clause-step g c =
    let rules = rules_of g.S.Seer.refused g.S.Seer.taken g.S.Seer.asked g.S.Seer.sent
    g.S.Seer.block_at g.S.Seer.slot_at g.S.Seer.window_at g.S.Seer.text in
    until_line rules _ _ _ _ _ _ _ _ (search) c.take_until.ensures.step

pub returns-in-Expect-clause-step : goal.returns-in-Expect-clause-step
returns-in-Expect-clause-step g c =
    let rules = rules_of g.S.Seer.refused g.S.Seer.taken g.S.Seer.asked g.S.Seer.sent
    g.S.Seer.block_at g.S.Seer.slot_at g.S.Seer.window_at g.S.Seer.text in
    expect_line rules _ _ _ _ _ _ _ (search) c.requires.ready c.expect.ensures

pub returns-in_default : goal.returns-in_default
returns-in_default g c =
    let rules = rules_of g.S.Seer.refused g.S.Seer.taken g.S.Seer.asked g.S.Seer.sent
    g.S.Seer.block_at g.S.Seer.slot_at g.S.Seer.window_at g.S.Seer.text in
    record {
      step = rw (other_line rules c.args.line.now.number c.args.line.now.act c.requires.stays
          c.in_default.not-Wait c.in_default.not-Until c.in_default.not-Expect) c.act.ensures.step;
      link = c.act.ensures.link;
    }
