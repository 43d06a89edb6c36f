use Rattle.mc_slots.specs.Chest.{empty_is_chest}
use Rattle.mc_slots.proofs.chest.Chest.new.Goals as goal

pub invariant_of-result : goal.invariant_of-result
invariant_of-result c = empty_is_chest

pub returns-clause-chest : goal.returns-clause-chest
returns-clause-chest c = empty_is_chest
