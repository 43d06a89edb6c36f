-- What becomes of a game at a tick before clients are shown it: mobs move, and then players pick up
-- what lies near them. It leaves alone what both leave alone, and keeps what both keep.
use Rattle.mc_model.specs.Game.{Game}
use Rattle.mc_model.specs.Minds.{Plans, mobs_moved}
use Rattle.mc_model.specs.Pickups.{pickups}
use Rattle.mc_model.specs.Fitting.{Told}
use Rattle.mc_model.specs.Good.{Good}
use Rattle.mc_laws.proofs.Deeds.Leaving.{Leaves, leaves_on}
use Rattle.mc_laws.proofs.Minds.Moving.{mobs_good, mobs_leave}
use Rattle.mc_laws.proofs.Pickups.Picking.{KeepsGood, good_on, pickups_good, pickups_leave}

abbrev pub tick_rules : Plans → Game → Game
tick_rules plans g = pickups (mobs_moved plans g)

pub rules_leave : (plans : Plans) (g : Game) → Leaves g (tick_rules plans g)
rules_leave plans g =
    let moved : Game = mobs_moved plans g in
    leaves_on g moved (pickups moved) (mobs_leave plans g) (pickups_leave moved)

pub rules_good : (plans : Plans) (g : Game) → Good g → Told g → KeepsGood g (tick_rules plans g)
rules_good plans g good told =
    let moved : Game = mobs_moved plans g in
    let first = mobs_good plans g good told in
    good_on g moved (pickups moved) first (pickups_good moved first.good first.told)
