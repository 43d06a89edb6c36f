-- A tick from a world that some events lead to: what is needed of that world, and that the world
-- after it is one of that kind.
use Rattle.std.proofs.Common.{◌≡◌, refl, sym, ap, ◌∙◌}
use Rattle.std.specs.FinMap.{get}
use Rattle.mc_model.specs.Step.{ticked, step}
use Rattle.mc_model.specs.Tick.{at_tick, flushed}
use Rattle.mc_model.specs.World.{World, each}
use Rattle.mc_laws.proofs.Shown.Showing.{shown_world}
use Rattle.mc_events.specs.Served.{ServerValue}
use Rattle.mc_events.specs.Stands.{IsReached, Stands}
use Rattle.mc_events.specs.Ticking.{IsBare, StandsAmid}
use Rattle.mc_events.proofs.Reached.{reached_good, reached_next}

-- ---- before it

reached_bare : (w : World) → IsReached w → IsBare w
reached_bare w r k l there waits open_ =
    ap (λ (v : World). get v.shown k) r.is
    ∙ (((shown_world r.start r.events k).shown l
    (ap (λ (v : World). get v.links k) (sym r.is) ∙ there)).waiting waits open_).1

pub stands_amid : (server : ServerValue) (w : World) → Stands server w → StandsAmid server w
stands_amid server w s = record {
  works = s.works;
  game = s.game;
  last = s.last;
  listed = s.listed;
  each = s.each;
  good = reached_good w s.reached;
  bare = reached_bare w s.reached;
}

-- ---- behind it

-- what mobs are still to do is as it was when they had moved
pub plans_after : (w : World) → (step w ticked).world.plans ≡ (at_tick w).plans
unfolding step each
plans_after w = refl

pub stands_after : (old new : ServerValue) (w : World) → Stands old w →
    StandsAmid new (flushed (at_tick w)) → Stands new (step w ticked).world
unfolding step
stands_after old new w before s = record {
  works = s.works;
  game = s.game;
  last = s.last;
  listed = s.listed;
  each = s.each;
  reached = reached_next w ticked tt before.reached;
}
