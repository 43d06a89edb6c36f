use Rattle.std.proofs.Common.{sym, subst}
use Rattle.std.specs.List.{AllByRecursion}
use Rattle.mc_flush.specs.LineFrames.{IsLine}
use Rattle.mc_showing.proofs.SceneFacts.{later_lines}
use Rattle.mc_showing.proofs.client.view_for.Goals as goal

pub returns-clause-clear : goal.returns-clause-clear
returns-clause-clear c =
    subst (AllByRecursion IsLine) (sym c.new_lines.ensures)
    (later_lines c.args.player.now.since c.lines.result.now
    (subst (AllByRecursion IsLine) (sym c.lines.ensures.is) c.lines.ensures.clear))
