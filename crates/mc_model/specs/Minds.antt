-- Mobs move by their plans: what a world begins with, and what one move of each plan makes of a game
-- and of the plans. Rules of this project.
use Rattle.std.specs.Prelude.{List, [], map, take}
use Rattle.mc_entities.specs.declared.mind.Move.{Move}
use Rattle.mc_entities.specs.Folk.{after_tick, mobs_in}
use Rattle.mc_entities.specs.Plans.{asked}
use Rattle.mc_model.specs.declared.mobs.TheConstants.{MOBS_MAX}
use Rattle.mc_model.specs.declared.settings.Settings.{Settings}
use Rattle.mc_model.specs.Game.{Game}

-- the moves that each mob is still to make, in the order of their numbers
abbrev pub Plans : Type 0
Plans = List (List Move)

-- What a world begins with: its settings, and the plan of each mob, the moves that it is to make.
pub record Start : Type 0 where
  pub settings : Settings
  pub plans : Plans

-- a world has at most so many mobs, so no further plan counts
abbrev pub plans_of : Start → Plans
plans_of start = take MOBS_MAX start.plans

-- what a world without mobs begins with
abbrev pub without_mobs : Settings → Start
without_mobs settings = record { settings = settings; plans = [] }

-- the i-th mob by rising number moves by the first move of the i-th plan, but where that would leave
-- the range; one whose plan is spent stays
unfoldable pub mobs_moved : Plans → Game → Game
mobs_moved plans g = record g { entities = map (after_tick plans g.entities) g.entities }

-- and each of these plans loses that move
abbrev pub plans_left : Game → Plans → Plans
plans_left g plans = asked (mobs_in g.entities) plans
