use Rattle.mc_top.proofs.Runs.{refused}
use Rattle.mc_top.proofs.laws.bad_inputs_are_refused.Goals as goal

pub returns : goal.returns
returns c = λ plans command how before after bad. refused plans how before after bad command
