use Rattle.std.proofs.Common.{rules}
use Rattle.std.proofs.lemmas.List.Sorted.{answers_always}
use Rattle.mc_entities.specs.Folk.{told_eid}
use Rattle.mc_entities.proofs.NumberFacts.{searched_none, searched_some}
use Rattle.mc_entities.proofs.places.told_place.Goals as goal

pub returns-clause-none : goal.returns-clause-none
returns-clause-none c = searched_none told_eid _ _ _ _ _ _ c.requires.1
    c.binary_search_by_key.ensures.bound
    (c.binary_search_by_key.ensures.position told_eid
    (answers_always _ _ _ (λ f a r g called. search rules))) c.ok.ensures.value

pub returns-clause-some : goal.returns-clause-some
returns-clause-some c = searched_some told_eid _ _ _ _ _ _ c.requires.1
    c.binary_search_by_key.ensures.bound
    (c.binary_search_by_key.ensures.position told_eid
    (answers_always _ _ _ (λ f a r g called. search rules))) c.ok.ensures.value
