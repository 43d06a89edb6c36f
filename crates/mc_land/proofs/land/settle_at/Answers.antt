use Rattle.std.proofs.Common.{set, sym, ap, ◌∙◌}
use Rattle.std.proofs.lemmas.List.{get_or_default}
use Rattle.mc_land.specs.Ready.{settled_ready}
use Rattle.mc_land.proofs.KeptLandFacts.{found_unindexed}
use Rattle.mc_land.proofs.SetFacts.{changed_is_map, map_unchanged}
use Rattle.mc_land.proofs.land.settle_at.Goals as goal

pub returns-in-Some-clause-settled : goal.returns-in-Some-clause-settled
returns-in-Some-clause-settled c = changed_is_map settled_ready c.args.columns.now.items _
    c.args.index.now.entries c.args.place.now c.in-Some.i c.requires.indexed
    (sym c.in-Some.ensures) (λ d. ap (set c.args.columns.now.items c.in-Some.i)
    (c.settle.ensures ∙ ap settled_ready (c.index_mut-ready.ensures.value
    ∙ get_or_default c.args.columns.now.items c.in-Some.i c.index_mut-ready.result.now d
    (c.requires.indexed.listed c.args.place.now c.in-Some.i (sym c.in-Some.ensures)))))

pub returns-in_default-clause-settled : goal.returns-in_default-clause-settled
returns-in_default-clause-settled c = sym (map_unchanged settled_ready c.args.columns.now.items
    c.args.place.now (found_unindexed c.args.place.now c.args.columns.now.items
    c.args.index.now.entries c.requires.indexed
    (sym c.index_at.ensures ∙ c.in_default.is)))
