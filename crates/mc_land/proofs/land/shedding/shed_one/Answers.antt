use Rattle.std.proofs.Common.{refl, sym, ap, ◌∙◌}
use Rattle.mc_land.specs.ShedCode.{is_kept}
use Rattle.mc_land.proofs.ShedFacts.{shed_less, shed_more}
use Rattle.mc_land.proofs.land.shedding.shed_one.Goals as goal

pub returns-then-not-is_kept-clause-step : goal.returns-then-not-is_kept-clause-step
returns-then-not-is_kept-clause-step c = λ start shed.
    shed_less c.args.views.now start c.args.columns.now.items _ c.args.index.now.entries c.args.i _
    c.index.result.now refl shed c.requires.indexed (ap (is_kept c.args.views.now)
    (sym c.index.ensures) ∙ sym c.is_kept.ensures ∙ c.if-not-is_kept.true)
    (c.remove_at.ensures.taken c.index.result.now)

pub returns-else-not-is_kept-clause-step : goal.returns-else-not-is_kept-clause-step
returns-else-not-is_kept-clause-step c = λ start shed.
    shed_more c.args.views.now start c.args.columns.now.items _ c.args.index.now.entries c.args.i _
    c.index.result.now refl shed c.requires.indexed (ap (is_kept c.args.views.now)
    (sym c.index.ensures) ∙ sym c.is_kept.ensures ∙ c.if-not-is_kept.false) refl
