use Rattle.std.proofs.Common.{◌≡◌, true, false, List, ℕ, ◌+◌, sym, ap, map, drop, ◌∙◌, Global, Bor}
use Rattle.std.specs.Prelude.{string_bytes, is_some}
use Rattle.std.specs.List.{list_any}
use Rattle.std.specs.Str.{bytes_eq}
use Rattle.mc_words.specs.Arguments.{name_of, value_in, bytes_of}
use Rattle.mc_words.proofs.ArgumentSteps.{options_unknown, options_twice, options_later}
use Rattle.mc_words.proofs.ArgumentSteps.{options_done}
use Rattle.mc_words.proofs.ArgumentSteps.{some_seen}
use Rattle.mc_words.proofs.arguments.are_options.Goals as goal

pub returns-then-not-is_one : goal.returns-then-not-is_one
returns-then-not-is_one c =
    let names = map (λ (known : Bor (List ℕ)). known.now) c.args.names.now in
    let known : list_any (bytes_eq (name_of c.as_bytes.result.now)) names ≡ false =
    ap (λ (n : List ℕ). list_any (bytes_eq n) names) (sym c.cut_option.ensures.name)
    ∙ sym c.is_one.ensures ∙ c.if-not-is_one.true in
    sym (options_unknown (string_bytes {Z = Global}) names c.args.arguments.now
    c.loop-i.i c.index-arguments-i.result c.as_bytes.result.now c.loop-i-test.true
    (c.as_bytes.ensures.value ∙ ap string_bytes c.index-arguments-i.is) known)
    ∙ c.loop-i.invariant

pub returns-then-is_some : goal.returns-then-is_some
returns-then-is_some c =
    let names = map (λ (known : Bor (List ℕ)). known.now) c.args.names.now in
    let known : list_any (bytes_eq (name_of c.as_bytes.result.now)) names ≡ true =
    ap (λ (n : List ℕ). list_any (bytes_eq n) names) (sym c.cut_option.ensures.name)
    ∙ sym c.is_one.ensures ∙ c.if-not-is_one.false in
    let there : is_some (value_in (name_of c.as_bytes.result.now)
    (bytes_of (drop (c.loop-i.i + 1) c.args.arguments.now))) ≡ true =
    rw (← c.cut_option.ensures.name, ← c.split_at.ensures.back, ← c.value_in.ensures) (some_seen
    (λ value. value.now) c.value_in.result ∙ sym c.is_some.ensures ∙ c.if-is_some.true) in
    sym (options_twice (string_bytes {Z = Global}) names c.args.arguments.now
    c.loop-i.i c.index-arguments-i.result c.as_bytes.result.now c.loop-i-test.true
    (c.as_bytes.ensures.value ∙ ap string_bytes c.index-arguments-i.is) known there)
    ∙ c.loop-i.invariant

pub loop-i-preserved : goal.loop-i-preserved
loop-i-preserved c =
    let names = map (λ (known : Bor (List ℕ)). known.now) c.args.names.now in
    let known : list_any (bytes_eq (name_of c.as_bytes.result.now)) names ≡ true =
    ap (λ (n : List ℕ). list_any (bytes_eq n) names) (sym c.cut_option.ensures.name)
    ∙ sym c.is_one.ensures ∙ c.if-not-is_one.false in
    let nowhere : is_some (value_in (name_of c.as_bytes.result.now)
    (bytes_of (drop (c.loop-i.i + 1) c.args.arguments.now))) ≡ false =
    rw (← c.cut_option.ensures.name, ← c.split_at.ensures.back, ← c.value_in.ensures) (some_seen
    (λ value. value.now) c.value_in.result ∙ sym c.is_some.ensures ∙ c.if-is_some.false) in
    sym (options_later (string_bytes {Z = Global}) names c.args.arguments.now
    c.loop-i.i c.index-arguments-i.result c.as_bytes.result.now c.loop-i-test.true
    (c.as_bytes.ensures.value ∙ ap string_bytes c.index-arguments-i.is) known nowhere)
    ∙ c.loop-i.invariant

pub returns : goal.returns
returns c =
    let names = map (λ (known : Bor (List ℕ)). known.now) c.args.names.now in
    sym (options_done (string_bytes {Z = Global}) names c.args.arguments.now c.loop-i.i
    c.loop-i-test.false) ∙ c.loop-i.invariant
