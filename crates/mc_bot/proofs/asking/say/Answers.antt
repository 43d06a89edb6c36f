use Rattle.std.proofs.Common.{◌≡◌, ℕ, List, rules, subst, sym}
use Rattle.mc_replica.specs.Asking.{CanAsk}
use Rattle.mc_up.specs.declared.play_up.PlayUp.TheVariants.{Chat}
use Rattle.mc_bot.proofs.Askable.{can_say}
use Rattle.mc_bot.proofs.asking.say.Goals as goal

pub returns-clause-can : goal.returns-clause-can
returns-clause-can c =
    let is : c.in_ok-copy.field-0 ≡ c.args.text.now = search rules in
    subst (λ (text : List ℕ). CanAsk (Chat text)) (sym is) (can_say c.args.text.now c.requires)
