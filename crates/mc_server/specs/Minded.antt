-- A server with the minds of its mobs, as contracts see both. Rules of this project.
use Rattle.std.specs.Prelude.{◌≡◌}
use Rattle.mc_model.specs.Minds.{Plans}
use Rattle.mc_model.specs.World.{World}
use Rattle.mc_events.specs.Served.{ServerValue}
use Rattle.mc_events.specs.Stands.{Stands}

pub record ServedValue : Type 0 where
  pub server : ServerValue
  -- what is left of each mind's plan
  pub plans : Plans

-- they stand for a world
pub record StandsFor (served : ServedValue) (w : World) : Type 0 where
  pub stands : Stands served.server w
  pub plans : w.plans ≡ served.plans
