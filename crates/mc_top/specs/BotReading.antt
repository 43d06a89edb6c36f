-- How `bot` ends that has no script to play.
use Rattle.std.specs.Prelude.{ℕ, List, Option}
use Rattle.mc_wire.specs.Count.{Rose}
use Rattle.mc_words.specs.declared.ended.Ended.{Ended}
use Rattle.mc_words.specs.declared.ended.Ended.TheVariants as ended
use Rattle.mc_top.specs.BotPromise.{IsNoScript}

-- its input failed, or is no script, or there was no memory for one
abbrev pub HasNoScript : Ended → Option (List ℕ) → Option (List ℕ) → ℕ → ℕ → Type 0
HasNoScript ended.NoMemory left left' reads reads' = Unit {0}
HasNoScript ended.ReadFault left left' reads reads' = Rose reads reads'
HasNoScript (ended.BadInput bad) left left' reads reads' = IsNoScript bad left left'
HasNoScript other left left' reads reads' = ⊥
