-- Which bytes a connection took of those that it was handed, and for which cause it is closed.
-- Rules of this project.
use Rattle.std.specs.Prelude.{◌≡◌, ◌≢◌, ℕ, true, List, [], ◌++◌, Some, None, is_some}
use Rattle.std.specs.FinMap.{get}
use Rattle.mc_model.specs.declared.cause.Cause.TheVariants as causes
use Rattle.mc_model.specs.Step.{Event, step}
use Rattle.mc_model.specs.Stages.{is_closed}
use Rattle.mc_model.specs.Link.{Link}
use Rattle.mc_model.specs.World.{World}
use Rattle.mc_model.specs.Run.{history, lost, owed_in, stream, taken, why}

-- a link is closed just where a cause is kept of it
pub record HasCause (l : Link) : Type 0 where
  pub is : is_closed l.stage ≡ is_some l.cause

-- What a connection took is the first bytes of what was handed to it. Unless it was closed as
-- Backlog, what was lost when it left or broke and what it is owed are all others, also once it is
-- closed and forgotten. The cause that is kept of it is the first that it was closed for.
pub record Promised (k : ℕ) (w : World) (events : List Event) : Type 0 where
  pub begun : (more : List ℕ) × (stream k w events ≡ taken k w events ++ more)
  pub whole : why k w events ≢ Some causes.Backlog →
      stream k w events ≡ taken k w events ++ (lost k w events ++ owed_in k (history w events))
  pub closed : (l : Link) → get (history w events).links k ≡ Some l → HasCause l
  pub cause : (l : Link) → get (history w events).links k ≡ Some l → l.cause ≡ why k w events

-- after an event a connection is there still, or it was closed and owed nothing, and was forgotten
pub data Lasts (k : ℕ) (w : World) (e : Event) (l : Link) : Type 0 where
  stays : (m : Link) → get (step w e).world.links k ≡ Some m → Lasts k w e l
  is_forgotten : is_closed l.stage ≡ true → l.owed ≡ [] →
      get (step w e).world.links k ≡ None → Lasts k w e l
