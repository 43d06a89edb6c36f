use Rattle.mc_words.proofs.Finishes.{finishes_fixed}
use Rattle.mc_words.proofs.finishing.finish.Goals as goal

pub returns-in_default : goal.returns-in_default
returns-in_default g c = finishes_fixed _ g.O.Sink.held g.O.Sink.faults c.args.ended
    c.write_all.result c.args.out.now c.write_all.new.sink c.last_line-in_default.result.now
    c.in_default.not-BadInput c.in_default.not-Budget c.in_default.not-Refused
    c.last_line-in_default.ensures
    c.write_all.ensures.whole c.write_all.ensures.part c.write_all.ensures.failed
    c.write_all.ensures.empty

pub returns-in-BadInput : goal.returns-in-BadInput
returns-in-BadInput g c =
    rw c.in-BadInput.is (c.finish_with.ensures _ c.last_line.ensures)

pub returns-in-Budget : goal.returns-in-Budget
returns-in-Budget g c =
    rw c.in-Budget.is (c.finish_with-in-Budget.ensures _ c.budget_line.ensures)

pub returns-in-Refused : goal.returns-in-Refused
returns-in-Refused g c =
    rw c.in-Refused.is (c.finish_with-in-Refused.ensures _ c.last_line-in-Refused.ensures)
