use Rattle.std.proofs.Common.{rules}
use Rattle.mc_entities.proofs.PlanFacts.{ticking_next}
use Rattle.mc_entities.proofs.ticking.tick_all.Goals as goal

pub loop-i-preserved : goal.loop-i-preserved
loop-i-preserved g c = ticking_next _ _ c.args.entities.now.items c.loop-i.i c.loop-i.mobs
    c.loop-i.entities.items _ _ c.index_mut.result.now _ c.move_one-mobs.result c.requires.1
    (search rules) c.loop-i.invariant c.index_mut.ensures.value (search rules) (search rules)
    c.move_one-mobs.ensures.count
