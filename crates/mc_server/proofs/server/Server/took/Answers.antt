use Rattle.std.proofs.Common.{◌∙◌}
use Rattle.mc_model.specs.Step.{took}
use Rattle.mc_server.proofs.Plans.{step_plans}
use Rattle.mc_server.proofs.server.Server.took.Goals as goal

pub returns-clause-follows : goal.returns-clause-follows
returns-clause-follows g c = λ w served. record {
  stands = c.took.ensures.follows w served.stands;
  plans = step_plans w (took c.args.k c.args.n) (λ tick. cc) ∙ served.plans;
}
