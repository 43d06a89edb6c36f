use Rattle.mc_entities.specs.Folk.{told_eid}
use Rattle.mc_entities.proofs.NumberFacts.{without_absent, without_placed}
use Rattle.mc_entities.proofs.places.forget.Goals as goal

pub returns-in_default-clause-rows : goal.returns-in_default-clause-rows
returns-in_default-clause-rows c = without_absent told_eid _ _ _ c.as_slice.ensures.value
    (c.told_place.ensures.none c.in_default.is)

pub returns-clause-rows : goal.returns-clause-rows
returns-clause-rows c = without_placed told_eid _ _ _ _ _ _ c.in-Some.at c.remove-gone.result
    c.as_slice.ensures.value c.requires.1 c.in-Some.ensures.some c.remove-gone.ensures.items
