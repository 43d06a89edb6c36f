use Rattle.std.proofs.Common.{◌≡◌, ℕ, List, refl, subst, ap}
use Rattle.std.specs.Prelude.{Option, IfSome}
use Rattle.mc_entities.specs.declared.mind.Move.{Move}
use Rattle.mc_words.specs.Arguments.{bytes_of, command_of}
use Rattle.mc_words.specs.Devices.{Devices}
use Rattle.mc_words.specs.declared.arguments.Command.{Command}
use Rattle.mc_words.specs.declared.ended.Ended.TheVariants as ended
use Rattle.mc_top.specs.Promises.{KeepsPromise}
use Rattle.craft47.proofs.program.program.Goals as goal

-- what a command promises, of equal arguments and of equal plans
abbrev Keeps : List (List Move) → ℕ → Devices → Devices → Option Command → Type 0
Keeps plans status before after o =
    IfSome o (λ command. KeepsPromise plans command status before after)

promised : (a b : Option Command) (p q : List (List Move)) (status : ℕ) (before after : Devices) →
    a ≡ b → p ≡ q → Keeps p status before after a → Keeps q status before after b
promised a b p q status before after same plans keeps =
    subst (Keeps q status before after) same
    (subst (λ (r : List (List Move)). Keeps r status before after a) plans keeps)

pub returns-in-Err-clause-statuses : goal.returns-in-Err-clause-statuses
returns-in-Err-clause-statuses g c = (ended.NoMemory, refl)

pub returns-in-Ok-clause-promise : goal.returns-in-Ok-clause-promise
returns-in-Ok-clause-promise g c = rw c.in-Ok.is
    (promised _ _ _ _ _ _ _ (ap (λ list. command_of (bytes_of list)) c.as_slice.ensures.value)
    c.requires.pacing c.run.ensures.promise)
