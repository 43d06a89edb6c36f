use Rattle.mc_column.proofs.SentFacts.{body_bytes_spell, column_again, column_mask_names}
use Rattle.mc_column.proofs.SentFacts.{column_read}
use Rattle.mc_column.proofs.laws.bodies_read_back.Goals as goal

pub returns-clause-names : goal.returns-clause-names
returns-clause-names c = column_mask_names

pub returns-clause-spelled : goal.returns-clause-spelled
returns-clause-spelled c column sizes = body_bytes_spell column _ sizes

pub returns-clause-read : goal.returns-clause-read
returns-clause-read c = column_read

pub returns-clause-again : goal.returns-clause-again
returns-clause-again c = column_again
