use Rattle.std.proofs.Common.{sym, ◌∙◌}
use Rattle.mc_land.proofs.LookFacts.{dirty_ready, dirty_none}
use Rattle.mc_land.proofs.land.Land.dirty_at.Goals as goal

pub returns-in-Some : goal.returns-in-Some
returns-in-Some c = rw (← c.self.view_is) (c.touched.ensures ∙
    dirty_ready _ _ _ _ _ c.self.invariant.0 (sym c.in-Some.ensures))

pub returns-in-None : goal.returns-in-None
returns-in-None c =
    rw (← c.self.view_is) (dirty_none _ _ _ _ c.self.invariant.0 (sym c.in-None.ensures))
