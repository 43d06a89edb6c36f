use Rattle.std.proofs.Common.{◌≡◌, true, false, List, ℕ, sym, ap, ◌∙◌, Some, Global}
use Rattle.std.specs.Prelude.{string_bytes}
use Rattle.std.specs.Str.{bytes_eq}
use Rattle.mc_words.specs.Arguments.{name_of}
use Rattle.mc_words.proofs.ArgumentSteps.{value_here, value_later, value_nowhere}
use Rattle.mc_words.proofs.arguments.value_in.Goals as goal

pub returns-then-eq : goal.returns-then-eq
returns-then-eq c =
    let same : bytes_eq (name_of c.as_bytes.result.now) c.args.name.now ≡ true =
    ap (λ (n : List ℕ). bytes_eq n c.args.name.now) (sym c.cut_option.ensures.name)
    ∙ sym c.eq.ensures ∙ c.if-eq.true in
    ap (λ (v : List ℕ). Some v) c.cut_option.ensures.value
    ∙ sym (value_here (string_bytes {Z = Global}) c.args.name.now c.args.arguments.now
    c.loop-argument.argument-index c.argument-item.result
    c.as_bytes.result.now c.loop-argument-test.true (c.as_bytes.ensures.value
    ∙ ap string_bytes c.argument-item.is) same) ∙ c.loop-argument.invariant

pub loop-argument-preserved : goal.loop-argument-preserved
loop-argument-preserved c =
    let other : bytes_eq (name_of c.as_bytes.result.now) c.args.name.now ≡ false =
    ap (λ (n : List ℕ). bytes_eq n c.args.name.now) (sym c.cut_option.ensures.name)
    ∙ sym c.eq.ensures ∙ c.if-eq.false in
    sym (value_later (string_bytes {Z = Global}) c.args.name.now
    c.args.arguments.now c.loop-argument.argument-index c.argument-item.result
    c.as_bytes.result.now c.loop-argument-test.true (c.as_bytes.ensures.value
    ∙ ap string_bytes c.argument-item.is) other) ∙ c.loop-argument.invariant

pub returns : goal.returns
returns c = sym (value_nowhere (string_bytes {Z = Global}) c.args.name.now c.args.arguments.now
    c.loop-argument.argument-index c.loop-argument-test.false) ∙ c.loop-argument.invariant
