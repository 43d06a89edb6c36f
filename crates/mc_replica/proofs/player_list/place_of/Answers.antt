use Rattle.std.proofs.Common.{rules}
use Rattle.std.proofs.lemmas.List.Sorted.{answers_always}
use Rattle.std.specs.Ordering.{nat_cmp}
use Rattle.std.specs.FinMap.{nat_cmp-IsAntisymmetric}
use Rattle.std.proofs.lemmas.Cmp.{nat_cmp_total}
use Rattle.mc_replica.specs.KeptPlayers.{rows_of}
use Rattle.mc_replica.proofs.PlayerRows.{in_range, searched_pairs}
use Rattle.mc_replica.proofs.Rows.{absent, found}
use Rattle.mc_replica.proofs.player_list.place_of.Goals as goal

pub returns-clause-found : goal.returns-clause-found
returns-clause-found c =
    let r = c.binary_search_by_key.result in
    found nat_cmp nat_cmp_total nat_cmp-IsAntisymmetric (rows_of c.args.rows.now) c.args.uuid.now r
    (in_range c.args.rows.now r c.binary_search_by_key.ensures.bound)
    (searched_pairs c.args.rows.now c.args.uuid.now r
    (c.binary_search_by_key.ensures.position (λ listed. listed.uuid)
    (answers_always _ _ _ (λ f a r g called. search rules))))

pub returns-clause-absent : goal.returns-clause-absent
returns-clause-absent c =
    let r = c.binary_search_by_key.result in
    absent nat_cmp nat_cmp_total nat_cmp-IsAntisymmetric (rows_of c.args.rows.now) c.args.uuid.now r
    c.requires.rising (in_range c.args.rows.now r c.binary_search_by_key.ensures.bound)
    (searched_pairs c.args.rows.now c.args.uuid.now r
    (c.binary_search_by_key.ensures.position (λ listed. listed.uuid)
    (answers_always _ _ _ (λ f a r g called. search rules))))
