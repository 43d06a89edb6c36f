use Rattle.std.proofs.Common.{rules, subst, w32}
use Rattle.std.proofs.lemmas.Int.{to_z-of_z}
use Rattle.std.proofs.lemmas.List.Sorted.{answers_always}
use Rattle.std.specs.List.Sorted.{IsBinarySearchResult}
use Rattle.std.specs.Ordering.{int_cmp}
use lib.IntN.{ℤ}
use Rattle.mc_told.proofs.KeptRows.{absent, found}
use Rattle.mc_told.proofs.numbered.place_of.Goals as goal

pub returns-clause-found : goal.returns-clause-found
returns-clause-found g c =
    let facts = c.binary_search_by_key.ensures in
    let P : ℤ → Type 0 = λ eid. IsBinarySearchResult (λ e. int_cmp e.0 eid) c.args.rows.now
    c.binary_search_by_key.result in
    let by_key =
    subst P (to_z-of_z w32 c.args.eid c.ranges.eid)
    (facts.position (λ row. row.0) (answers_always _ _ _ (λ f a r g called. search rules))) in
    found c.args.rows.now c.args.eid c.binary_search_by_key.result facts.bound by_key

pub returns-clause-absent : goal.returns-clause-absent
returns-clause-absent g c =
    let facts = c.binary_search_by_key.ensures in
    let P : ℤ → Type 0 = λ eid. IsBinarySearchResult (λ e. int_cmp e.0 eid) c.args.rows.now
    c.binary_search_by_key.result in
    let by_key =
    subst P (to_z-of_z w32 c.args.eid c.ranges.eid)
    (facts.position (λ row. row.0) (answers_always _ _ _ (λ f a r g called. search rules))) in
    absent c.args.rows.now c.args.eid c.binary_search_by_key.result c.requires.rising facts.bound
    by_key
