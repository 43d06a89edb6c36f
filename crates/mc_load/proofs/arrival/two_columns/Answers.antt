use Rattle.std.proofs.Common.{◌≡◌, List, ℕ, rules, subst, sym, true}
use Rattle.std.specs.Prelude.{codes}
use lib.IntN.{pos}
use Rattle.mc_up.specs.declared.play_up.PlayUp.TheVariants.{Settings}
use Rattle.mc_load.specs.Framed.{CanSend}
use Rattle.mc_load.proofs.Sendable.{can_view}
use Rattle.mc_load.proofs.arrival.two_columns.Goals as goal

pub returns-clause-can : goal.returns-clause-can
returns-clause-can c =
    let is : c.in_ok-from_str.field-0 ≡ codes "en_US" = search rules in
    subst (λ (text : List ℕ). CanSend (Settings text (pos 2) (pos 0) true 127)) (sym is) can_view
