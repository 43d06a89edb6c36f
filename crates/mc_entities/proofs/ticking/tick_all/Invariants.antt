use Rattle.std.proofs.Common.{map}
use Rattle.mc_entities.proofs.PlanFacts.{IsTicking}
use Rattle.mc_entities.proofs.ticking.tick_all.Given as goal

abbrev pub invariant-loop-i : goal.invariant-loop-i
invariant-loop-i g l = IsTicking
    (map (λ mind. g.M.Mind.plan mind) l.fn.minds) l.fn.entities.items l.i l.mobs l.entities.items
    (map (λ mind. g.M.Mind.plan mind) l.minds)
