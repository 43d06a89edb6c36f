use Rattle.std.proofs.Common.{rules, ap, sym, subst, ◌∙◌, ◌<◌}
use Rattle.mc_entities.specs.Folk.{FolkValue, is_full, is_spent}
use Rattle.mc_entities.proofs.KeptFacts.{kept_more, pushed}
use Rattle.mc_entities.proofs.folk.Folk.add.Goals as goal

pub invariant_of-self : goal.invariant_of-self
invariant_of-self c = kept_more c.self.inside.entities.items _ _ _ _ _ _ _ _ c.self.invariant
    c.requires.range (search rules)
    (ap (λ (w : FolkValue). is_full c.args.kind w.state) c.self.view_is ∙ c.requires.room)
    (ap (λ (w : FolkValue). is_spent w.state) c.self.view_is ∙ c.requires.number)
    (subst (λ (w : FolkValue). 0 < w.reserve) (sym c.self.view_is) c.requires.place)
    c.dropped_count.ensures (pushed _ _ _ c.push.ensures.items c.unwrap.ensures)
