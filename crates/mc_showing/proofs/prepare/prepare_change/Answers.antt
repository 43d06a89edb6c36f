use Rattle.std.proofs.Common.{sym, ◌∙◌}
use Rattle.std.proofs.lemmas.Result.{on_ok_weaker}
use Rattle.mc_showing.proofs.LookFacts.{not_stayed, one_looked, one_stayed}
use Rattle.mc_showing.proofs.prepare.prepare_change.Goals as goal

pub returns-then-not-stays-clause-changed : goal.returns-then-not-stays-clause-changed
returns-then-not-stays-clause-changed g c =
    not_stayed c.args.land.now c.args.mark.now.view c.args.view.now c.args.place.now
    c.args.encoded.now (sym c.stays.ensures ∙ c.if-not-stays.true)

pub returns-clause-changed : goal.returns-clause-changed
returns-clause-changed g c =
    on_ok_weaker c.add_changes.result
    (one_stayed c.args.land.now c.args.mark.now.view c.args.view.now c.args.place.now
    c.args.encoded.now c.add_changes.new.self (sym c.stays.ensures ∙ c.if-not-stays.false))
    c.add_changes.ensures.ok

pub returns-clause-bounded : goal.returns-clause-bounded
returns-clause-bounded g c =
    one_looked c.args.land.now c.args.mark.now.view c.args.view.now c.args.place.now
    c.args.steps.now c.add_changes.new.steps c.args.encoded.now
    (sym c.stays.ensures ∙ c.if-not-stays.false) c.add_changes.ensures.bounded
