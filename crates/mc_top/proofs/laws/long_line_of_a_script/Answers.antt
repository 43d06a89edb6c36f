use Rattle.mc_top.proofs.LongLines.{long_holds}
use Rattle.mc_top.proofs.laws.long_line_of_a_script.Goals as goal

pub returns : goal.returns
returns c = long_holds
