use Rattle.std.proofs.Common.{List, sym, ap, ◌∙◌}
use Rattle.mc_land.specs.Places.{Place}
use Rattle.mc_land.proofs.UpkeepFacts.{all_settled, settled_one_by_one}
use Rattle.mc_land.proofs.land.settle_touched.Goals as goal

pub returns : goal.returns
returns c = sym (ap (λ (places : List Place). settled_one_by_one places c.loop-place.columns.items) c.in-None.ensures.steps.0)
    ∙ c.loop-place.invariant.0
    ∙ all_settled _ c.args.index.now.entries _ c.requires.indexed c.requires.known
