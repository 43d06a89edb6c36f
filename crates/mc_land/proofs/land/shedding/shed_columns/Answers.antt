use Rattle.std.proofs.Common.{◌≡◌, ◌+◌, ◌-◌, subst, ℕ, arith}
use Rattle.mc_land.specs.ShedCode.{AreShed}
use Rattle.mc_land.proofs.ShedFacts.{all_kept, shed_all}
use Rattle.mc_land.proofs.land.shedding.shed_columns.Goals as goal

pub loop-i-preserved : goal.loop-i-preserved
loop-i-preserved c =
    let step : c.loop-i.i ≡ c.loop-i.i - 1 + 1 = omega (arith, c.loop-i-test.true) in (
      c.shed_one.ensures.indexed,
      c.shed_one.ensures.step c.args.columns.now.items
          (subst (λ (n : ℕ). AreShed c.args.views.now c.args.columns.now.items
          c.loop-i.columns.items n) step c.loop-i.invariant.1),
    )

pub returns-clause-shed : goal.returns-clause-shed
returns-clause-shed c = shed_all _ _ _ _ c.loop-i.i c.loop-i.invariant.1 (all_kept _ _ _
    c.loop-i.i c.args.from c.loop-i-test.false c.loop-i.invariant.1 c.requires.known)
    c.loop-i.invariant.0

pub returns-clause-kept : goal.returns-clause-kept
returns-clause-kept c = all_kept _ _ _ c.loop-i.i c.args.from c.loop-i-test.false
    c.loop-i.invariant.1 c.requires.known
