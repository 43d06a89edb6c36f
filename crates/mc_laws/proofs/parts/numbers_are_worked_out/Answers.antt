use Rattle.mc_laws.proofs.NumberFacts.{fixes, endless, turns, vast, pattern_stands, degrees_stand}
use Rattle.mc_laws.proofs.parts.numbers_are_worked_out.Goals as goal

pub returns-clause-fixed : goal.returns-clause-fixed
returns-clause-fixed c = fixes

pub returns-clause-endless : goal.returns-clause-endless
returns-clause-endless c = endless

pub returns-clause-turn : goal.returns-clause-turn
returns-clause-turn c = turns

pub returns-clause-vast : goal.returns-clause-vast
returns-clause-vast c = vast

pub returns-clause-pattern : goal.returns-clause-pattern
returns-clause-pattern c = pattern_stands

pub returns-clause-degrees : goal.returns-clause-degrees
returns-clause-degrees c = degrees_stand
