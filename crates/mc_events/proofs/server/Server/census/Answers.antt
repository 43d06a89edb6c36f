use Rattle.std.proofs.Common.{◌≡◌, ap, subst, ◌∙◌}
use Rattle.std.specs.Prelude.{◌≢◌, Some}
use Rattle.std.specs.FinMap.{get}
use Rattle.mc_land.specs.Land.{terrain_at}
use Rattle.mc_model.specs.Game.{Game}
use Rattle.mc_play.specs.Census.{census_of}
use Rattle.mc_events.proofs.Seating.{inside}
use Rattle.mc_events.proofs.server.Server.census.Goals as goal

pub returns-clause-is : goal.returns-clause-is
returns-clause-is c =
    λ w st. c.census.ensures.is ∙ ap census_of (inside c.self.view_is st).game

pub returns-clause-differ : goal.returns-clause-differ
returns-clause-differ c = λ w key state st found.
    let Differs : Game → Type 0 =
    λ g. get g.edits key ≡ Some state → state ≢ terrain_at g.settings.terrain key in
    subst Differs (inside c.self.view_is st).game (c.census.ensures.differ key state) found
