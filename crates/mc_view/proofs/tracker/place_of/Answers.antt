use Rattle.std.proofs.Common.{rules, subst, w32, FitsSigned}
use Rattle.std.proofs.lemmas.Int.{to_z-of_z}
use Rattle.std.proofs.lemmas.List.Sorted.{answers_always}
use Rattle.std.specs.List.Sorted.{IsBinarySearchResult}
use Rattle.std.specs.Ordering.{int_cmp}
use lib.IntN.{ℤ}
use Rattle.mc_view.proofs.EntryFacts.{searched}
use Rattle.mc_view.specs.declared.tracker.Entry.{Entry}
use Rattle.mc_view.proofs.tracker.place_of.Goals as goal

pub returns-clause-found : goal.returns-clause-found
returns-clause-found c =
    let fits : FitsSigned w32 c.args.eid = search rules in
    let facts = c.binary_search_by_key.ensures in
    let P : ℤ → Type 0 =
    λ eid. IsBinarySearchResult (λ (e : Entry). int_cmp e.eid eid) c.args.entries.now
    c.binary_search_by_key.result in
    let by_key =
    subst P (to_z-of_z w32 c.args.eid fits)
    (facts.position (λ entry. entry.eid)
    (answers_always _ _ _ (λ f a r g called. search rules))) in
    (searched c.args.entries.now c.args.eid c.binary_search_by_key.result
    c.requires.rising facts.bound by_key).found

pub returns-clause-absent : goal.returns-clause-absent
returns-clause-absent c =
    let fits : FitsSigned w32 c.args.eid = search rules in
    let facts = c.binary_search_by_key.ensures in
    let P : ℤ → Type 0 =
    λ eid. IsBinarySearchResult (λ (e : Entry). int_cmp e.eid eid) c.args.entries.now
    c.binary_search_by_key.result in
    let by_key =
    subst P (to_z-of_z w32 c.args.eid fits)
    (facts.position (λ entry. entry.eid)
    (answers_always _ _ _ (λ f a r g called. search rules))) in
    (searched c.args.entries.now c.args.eid c.binary_search_by_key.result
    c.requires.rising facts.bound by_key).absent
