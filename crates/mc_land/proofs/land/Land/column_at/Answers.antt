use Rattle.std.proofs.Common.{sym, ◌∙◌}
use Rattle.mc_land.proofs.LookFacts.{column_ready, ready_some, ready_none}
use Rattle.mc_land.proofs.land.Land.column_at.Goals as goal

pub returns-in-Some-clause-none : goal.returns-in-Some-clause-none
returns-in-Some-clause-none c =
    rw (← c.self.view_is) (ready_some c.self.inside.terrain _ c.self.inside.chests.entries _ _
    (sym c.in-Some.ensures))

pub returns-in-Some-clause-some : goal.returns-in-Some-clause-some
returns-in-Some-clause-some c = rw (← c.self.view_is) (c.column.ensures.column ∙
    column_ready _ _ _ _ _ c.self.invariant.0 (sym c.in-Some.ensures))

pub returns-in-None-clause-none : goal.returns-in-None-clause-none
returns-in-None-clause-none c =
    rw (← c.self.view_is) (ready_none c.self.inside.terrain _ c.self.inside.chests.entries _
    (sym c.in-None.ensures))
