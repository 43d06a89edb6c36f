use Rattle.std.proofs.Common.{◌∙◌, arith}
use Rattle.std.proofs.lemmas.Bool.{eq-eqb, eqb-true}
use Rattle.std.proofs.lemmas.List.{get_or_default}
use Rattle.mc_column.proofs.LightFacts.{zero_more}
use Rattle.mc_column.proofs.light.are_zero.Goals as goal

pub loop-byte-preserved : goal.loop-byte-preserved
loop-byte-preserved c = zero_more _ _ _ c.loop-byte.invariant

pub returns : goal.returns
returns c = (
  λ e k d lt. get_or_default c.args.bytes.now k d 0 lt ∙ c.loop-byte.invariant.all (eqb-true _ _ e)
      k (omega (arith, c.loop-byte-test.false)),
  λ each. eq-eqb _ _ (c.loop-byte.invariant.none
      (λ k lt. each k 0 (omega (arith, c.loop-byte.auto.byte-index-end)))),
)
