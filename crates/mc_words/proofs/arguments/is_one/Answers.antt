use Rattle.std.proofs.Common.{sym, ◌∙◌}
use Rattle.std.specs.Str.{bytes_eq}
use Rattle.mc_words.proofs.ArgumentSteps.{any_here, any_later, any_nowhere}
use Rattle.mc_words.proofs.arguments.is_one.Goals as goal

pub returns-then-eq : goal.returns-then-eq
returns-then-eq c = sym (any_here (λ known. known.now) (bytes_eq c.args.name.now) c.args.names.now
    c.loop-known.known-index _ c.as_bytes.result.now c.loop-known-test.true c.as_bytes.ensures.value
    (sym c.eq.ensures ∙ c.if-eq.true)) ∙ c.loop-known.invariant

pub loop-known-preserved : goal.loop-known-preserved
loop-known-preserved c = sym (any_later (λ known. known.now) (bytes_eq c.args.name.now)
    c.args.names.now c.loop-known.known-index _ c.as_bytes.result.now c.loop-known-test.true
    c.as_bytes.ensures.value (sym c.eq.ensures ∙ c.if-eq.false)) ∙ c.loop-known.invariant

pub returns : goal.returns
returns c = sym (any_nowhere (λ known. known.now) (bytes_eq c.args.name.now) c.args.names.now
    c.loop-known.known-index c.loop-known-test.false) ∙ c.loop-known.invariant
