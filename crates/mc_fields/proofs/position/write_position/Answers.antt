use Rattle.mc_fields.proofs.Again.{position_spelled, position_again}
use Rattle.mc_fields.proofs.position.write_position.Goals as goal

pub returns-clause-spelled : goal.returns-clause-spelled
returns-clause-spelled c = position_spelled c.args.cell c.requires

pub returns-clause-again : goal.returns-clause-again
returns-clause-again c = position_again c.args.cell c.requires
