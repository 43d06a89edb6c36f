use Rattle.std.proofs.Common.{rules}
use Rattle.std.proofs.lemmas.List.Sorted.{answers_always}
use Rattle.mc_land.specs.Places.{place_cmp}
use Rattle.mc_land.proofs.Orders.{exact_places, places_total}
use Rattle.mc_replica.proofs.Rows.{absent, found}
use Rattle.mc_replica.proofs.columns.place_of.Goals as goal

pub returns-clause-found : goal.returns-clause-found
returns-clause-found c =
    found place_cmp places_total exact_places c.args.rows.now c.args.place.now
    c.binary_search_by_key.result c.binary_search_by_key.ensures.bound
    (c.binary_search_by_key.ensures.position (λ row. row.0)
    (answers_always _ _ _ (λ f a r g called. search rules)))

pub returns-clause-absent : goal.returns-clause-absent
returns-clause-absent c =
    absent place_cmp places_total exact_places c.args.rows.now c.args.place.now
    c.binary_search_by_key.result c.requires.rising c.binary_search_by_key.ensures.bound
    (c.binary_search_by_key.ensures.position (λ row. row.0)
    (answers_always _ _ _ (λ f a r g called. search rules)))
