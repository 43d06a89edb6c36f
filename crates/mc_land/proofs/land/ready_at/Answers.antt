use Rattle.std.proofs.Common.{◌∙◌, sym, ap, Some}
use Rattle.mc_land.proofs.KeptLandFacts.{found_indexed, found_unindexed}
use Rattle.mc_land.proofs.land.ready_at.Goals as goal

pub returns-in-Some : goal.returns-in-Some
returns-in-Some c =
    let found = sym c.in-Some.ensures in
    ap Some c.index.ensures ∙ sym (found_indexed c.args.place.now c.args.columns.now.items
    c.args.index.now.entries c.in-Some.i c.index.result.now c.requires found)

pub returns-in-None : goal.returns-in-None
returns-in-None c = sym (found_unindexed c.args.place.now c.args.columns.now.items
    c.args.index.now.entries c.requires (sym c.in-None.ensures))
