use Rattle.mc_fields.specs.IntegerLaws.{boolean_spelled}
use Rattle.mc_fields.proofs.Again.{boolean_again}
use Rattle.mc_fields.proofs.integers.write_bool.Goals as goal

pub returns-clause-spelled : goal.returns-clause-spelled
returns-clause-spelled c = boolean_spelled c.args.value

pub returns-clause-again : goal.returns-clause-again
returns-clause-again c = boolean_again c.args.value
