-- What a call leaves of the failures that a link has counted: more, where it fails for the link,
-- and else no fewer. Rule of this project.
use Rattle.std.specs.Prelude.{ℕ, Result, IsErrOf}
use Rattle.mc_wire.specs.Count.{Rose, StandsOrRises}
use Rattle.mc_bot.specs.declared.bot_fault.BotFault.{BotFault}
use Rattle.mc_bot.specs.declared.bot_fault.BotFault.TheVariants as faults

abbrev pub LinkFaults : {T : Type 0} → ℕ → ℕ → Result T BotFault → Type 0
LinkFaults old new result = (IsErrOf result faults.Link → Rose old new) × StandsOrRises old new
