use Rattle.std.proofs.Common.{rules}
use Rattle.std.proofs.lemmas.List.Sorted.{answers_always}
use Rattle.mc_entities.specs.Folk.{eid_of}
use Rattle.mc_entities.proofs.NumberFacts.{searched_none, searched_some}
use Rattle.mc_entities.proofs.places.place_of.Goals as goal

pub returns-clause-none : goal.returns-clause-none
returns-clause-none c = searched_none eid_of _ _ _ _ _ _ c.requires.1
    c.binary_search_by_key.ensures.bound
    (c.binary_search_by_key.ensures.position eid_of
    (answers_always _ _ _ (λ f a r g called. search rules))) c.ok.ensures.value

pub returns-clause-some : goal.returns-clause-some
returns-clause-some c = searched_some eid_of _ _ _ _ _ _ c.requires.1
    c.binary_search_by_key.ensures.bound
    (c.binary_search_by_key.ensures.position eid_of
    (answers_always _ _ _ (λ f a r g called. search rules))) c.ok.ensures.value
