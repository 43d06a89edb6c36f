use Rattle.mc_top.proofs.ScriptFacts.{script_ticks}
use Rattle.mc_top.proofs.laws.ticks_of_a_script.Goals as goal

pub returns : goal.returns
returns c = script_ticks
