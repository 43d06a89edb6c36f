use Rattle.std.proofs.Common.{None, ap, ◌∙◌}
use Rattle.mc_land.specs.Ready.{ReadyValue}
use Rattle.mc_land.proofs.ShedFacts.{taken_away, updated}
use Rattle.mc_land.proofs.land.shedding.remove_at.Goals as goal

pub returns-clause-indexed : goal.returns-clause-indexed
returns-clause-indexed c =
    (taken_away c.args.columns.now.items c.swap_remove-gone.new.self.items c.args.index.now.entries
    c.remove-place.new.self.entries c.repoint.new.index.entries c.args.i
    c.swap_remove-gone.result c.swap_remove-gone.result c.requires.indexed c.requires.there
    c.swap_remove-gone.ensures.items (λ q. updated c.args.index.now.entries
    c.remove-place.new.self.entries _ _ q None (c.remove-place.ensures.updates.0 q)
    (c.place.ensures ∙ ap (λ (r : ReadyValue). r.place) c.swap_remove-gone.ensures.value))
    c.repoint.ensures.moved c.repoint.ensures.none).0

pub returns-clause-taken : goal.returns-clause-taken
returns-clause-taken c = λ d.
    (taken_away c.args.columns.now.items c.swap_remove-gone.new.self.items c.args.index.now.entries
    c.remove-place.new.self.entries c.repoint.new.index.entries c.args.i d
    c.swap_remove-gone.result c.requires.indexed c.requires.there
    c.swap_remove-gone.ensures.items (λ q. updated c.args.index.now.entries
    c.remove-place.new.self.entries _ _ q None (c.remove-place.ensures.updates.0 q)
    (c.place.ensures ∙ ap (λ (r : ReadyValue). r.place) c.swap_remove-gone.ensures.value))
    c.repoint.ensures.moved c.repoint.ensures.none).1
