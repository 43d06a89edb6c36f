use Rattle.mc_top.proofs.Runs.{served}
use Rattle.mc_top.proofs.laws.good_inputs_are_served.Goals as goal

pub returns : goal.returns
returns c = λ plans command how before after. served plans how before after command
