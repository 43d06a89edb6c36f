use Rattle.std.proofs.Common.{◌∙◌}
use Rattle.mc_land.specs.Places.{place_cmp}
use Rattle.mc_land.proofs.KeptLandFacts.{lookup_is}
use Rattle.mc_land.proofs.land.index_at.Goals as goal

pub returns : goal.returns
returns c = c.copied.ensures ∙ c.get.ensures.value ∙ lookup_is place_cmp c.args.place.now
    c.args.index.now.entries
