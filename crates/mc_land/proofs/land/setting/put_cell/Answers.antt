use Rattle.std.proofs.Common.{rules, Some, ◌∙◌, sym, refl}
use Rattle.mc_land.proofs.ChangeFacts.{fresh_new, ready_there}
use Rattle.mc_land.proofs.KeptLandFacts.{found_unindexed}
use Rattle.mc_land.proofs.SetFacts.{set_is_map, indexed_set, put_there, put_made}
use Rattle.mc_land.proofs.land.setting.put_cell.Goals as goal

pub returns-in_ok-set_ready-in-Some-clause-indexed :
    goal.returns-in_ok-set_ready-in-Some-clause-indexed
returns-in_ok-set_ready-in-Some-clause-indexed c =
    let set' = set_is_map c.args.columns.now.items _ c.args.index.now.entries
    c.place_of-place.result c.in-Some.i _ c.args.state c.requires.indexed
    (sym c.in-Some.ensures) c.in_ok-set_ready-in-Some.ensures.ok in
    indexed_set _ _ _ _ _ _ set' c.requires.indexed

pub returns-in_ok-set_ready-in-Some-clause-ok : goal.returns-in_ok-set_ready-in-Some-clause-ok
returns-in_ok-set_ready-in-Some-clause-ok c =
    let there = ready_there c.args.columns.now.items c.args.index.now.entries
    c.place_of-place.result (Some c.in-Some.i) c.requires.indexed c.in-Some.ensures refl in
    let set' = set_is_map c.args.columns.now.items _ c.args.index.now.entries
    c.place_of-place.result c.in-Some.i _ c.args.state c.requires.indexed
    (sym c.in-Some.ensures) c.in_ok-set_ready-in-Some.ensures.ok in
    rw (← c.place_of-place.ensures) (put_there _ _ _ _ _ _ there.0 there.1 set')

pub returns-in_ok-push_ready-in-None-clause-ok : goal.returns-in_ok-push_ready-in-None-clause-ok
returns-in_ok-push_ready-in-None-clause-ok c =
    let none = found_unindexed c.place_of-place.result c.args.columns.now.items
    c.args.index.now.entries c.requires.indexed (sym c.in-None.ensures) in
    rw (← c.place_of-place.ensures) (put_made _ _ _ _ _ _ c.new-ready.result none
    (fresh_new _ _ _ _ (search rules) c.in_ok-column-in-None.ensures c.new-ready.ensures)
    (c.in_ok-push_ready-in-None.ensures.ok ∙ rw c.in_ok-set_in-in-None.ensures.ok refl))
