use Rattle.std.proofs.Common.{rules}
use Rattle.std.proofs.lemmas.List.Sorted.{answers_always}
use Rattle.std.specs.Ordering.{int_cmp}
use Rattle.std.specs.Cmp.{int_cmp_total}
use Rattle.std.specs.FinMap.{int_cmp-IsAntisymmetric}
use Rattle.mc_replica.proofs.Rows.{absent, found}
use Rattle.mc_replica.proofs.entities.place_of.Goals as goal

pub returns-clause-found : goal.returns-clause-found
returns-clause-found c =
    found int_cmp int_cmp_total int_cmp-IsAntisymmetric c.args.rows.now c.args.eid.now
    c.binary_search_by_key.result c.binary_search_by_key.ensures.bound
    (c.binary_search_by_key.ensures.position (λ seen. seen.0)
    (answers_always _ _ _ (λ f a r g called. search rules)))

pub returns-clause-absent : goal.returns-clause-absent
returns-clause-absent c =
    absent int_cmp int_cmp_total int_cmp-IsAntisymmetric c.args.rows.now c.args.eid.now
    c.binary_search_by_key.result c.requires.rising c.binary_search_by_key.ensures.bound
    (c.binary_search_by_key.ensures.position (λ seen. seen.0)
    (answers_always _ _ _ (λ f a r g called. search rules)))
