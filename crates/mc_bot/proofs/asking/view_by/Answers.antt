use Rattle.std.proofs.Common.{◌≡◌, ℕ, List, rules, subst, sym, true}
use Rattle.std.specs.Prelude.{codes}
use Rattle.std.specs.Int.{w8}
use lib.IntN.{pos}
use mir.Val.{to_z, of_z}
use Rattle.mc_replica.specs.Asking.{CanAsk}
use Rattle.mc_up.specs.declared.play_up.PlayUp.TheVariants.{Settings}
use Rattle.mc_bot.proofs.Askable.{again, can_view}
use Rattle.mc_bot.proofs.asking.view_by.Goals as goal

pub returns-clause-can : goal.returns-clause-can
returns-clause-can c =
    let view = to_z w8 (of_z w8 c.args.view) in
    let is : c.in_ok-from_str.field-0 ≡ codes "en_US" = search rules in
    subst (λ (text : List ℕ). CanAsk (Settings text view (pos 0) true 127)) (sym is)
    (can_view view (again w8 c.args.view c.ranges.view))
