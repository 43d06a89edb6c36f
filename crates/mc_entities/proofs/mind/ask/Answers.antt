use Rattle.std.proofs.Common.{rules}
use Rattle.mc_entities.proofs.PlanFacts.{plans_set}
use Rattle.mc_entities.proofs.mind.ask.Goals as goal

pub returns-clause-rest : goal.returns-clause-rest
returns-clause-rest g c =
    plans_set _ c.args.minds.now c.args.at c.index-minds-at.result c.step_of.new.mind
    (search rules) c.index-minds-at.is (search rules)
