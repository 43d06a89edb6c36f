use Rattle.std.proofs.Common.{◌∙◌}
use Rattle.mc_model.specs.Step.{forgot}
use Rattle.mc_server.proofs.Plans.{step_plans}
use Rattle.mc_server.proofs.server.Server.forget.Goals as goal

pub returns-clause-follows : goal.returns-clause-follows
returns-clause-follows g c = λ w served. record {
  stands = c.forget.ensures.follows w served.stands;
  plans = step_plans w (forgot c.args.k) (λ tick. cc) ∙ served.plans;
}
