use Rattle.std.proofs.Common.{◌≡◌, ◌+◌, ◌∷◌, ℕ, List, drop, rules, sym, subst, ap, ◌∙◌}
use Rattle.std.specs.List.{AllByRecursion}
use Rattle.std.proofs.lemmas.List.{drop_all, drop_more}
use Rattle.mc_flush.specs.LineFrames.{IsLine}
use Rattle.mc_scenes.proofs.Tried.{tried_next}
use Rattle.mc_scenes.proofs.flushes.are_lines.Goals as goal

pub loop-text-preserved : goal.loop-text-preserved
loop-text-preserved c =
    let texts = c.args.texts.now in
    let i = c.loop-text.text-index in
    let text = c.text-item.result in
    let next : drop i texts ≡ text ∷ drop (i + 1) texts =
    drop_more texts i text c.loop-text-test.true
    ∙ ap (λ (x : List ℕ). x ∷ drop (i + 1) texts) (sym c.text-item.is) in
    let here : IsLine text = search rules in
    tried_next IsLine texts (drop i texts) (drop (i + 1) texts) text next here
    c.loop-text.invariant

pub returns : goal.returns
returns c = λ t. c.loop-text.invariant (subst (AllByRecursion IsLine)
    (sym (drop_all c.loop-text.text-index c.args.texts.now c.loop-text-test.false)) tt)
