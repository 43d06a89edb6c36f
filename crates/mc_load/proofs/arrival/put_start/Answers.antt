use Rattle.std.proofs.Common.{◌≡◌, List, ℕ, rules, subst, sym}
use Rattle.mc_hello.specs.declared.login_up.LoginUp.TheVariants.{Start}
use Rattle.mc_hello.specs.LoginUp.{SpellsLoginUp}
use Rattle.mc_load.specs.Load.{name_of}
use Rattle.mc_load.proofs.Sendable.{start_spelled}
use Rattle.mc_load.proofs.arrival.put_start.Goals as goal

pub write_login_up-written-requires : goal.write_login_up-written-requires
write_login_up-written-requires c =
    let is : c.in_ok-name_of.field-0 ≡ name_of c.args.client = search rules in
    subst (λ (text : List ℕ). (bytes : List ℕ) × SpellsLoginUp (Start text) bytes) (sym is)
    (start_spelled c.args.client c.requires)
