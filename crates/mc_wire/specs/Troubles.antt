-- Which calls of a lobby in memory fail, stall, break or take few bytes (a rule of this project).
use Rattle.std.specs.Prelude.{ℕ, List, [], ◌∷◌, ◌==◌, if◌then◌else◌, min, max}
use Rattle.mc_wire.specs.declared.answers.Wrote.{Wrote}
use Rattle.mc_wire.specs.declared.answers.Wrote.TheVariants as writes
use Rattle.mc_wire.specs.declared.trouble.Trouble.{Trouble}
use Rattle.mc_wire.specs.declared.trouble.Trouble.TheVariants.{StallWrite, BreakWrite, ShortWrite}
use Rattle.mc_wire.specs.LobbyCounts.{LobbyCounts}

-- what a write of this number and size answers: the first trouble for it decides, and without one
-- all is taken
abbrev pub write_answer : List Trouble → ℕ → ℕ → Wrote
write_answer [] number size = writes.Took size
write_answer (StallWrite i ∷ rest) number size =
    if i == number then writes.Stalled else write_answer rest number size
write_answer (BreakWrite i ∷ rest) number size =
    if i == number then writes.Broken else write_answer rest number size
write_answer (ShortWrite i n ∷ rest) number size =
    if i == number then writes.Took (min (max n 1) size) else write_answer rest number size
write_answer (other ∷ rest) number size = write_answer rest number size

-- the troubles, how many nexts and writes there were, and how many of the calls failed, stalled and
-- broke
pub record TroublesState : Type 0 where
  pub troubles : List Trouble
  pub nexts : ℕ
  pub writes : ℕ
  pub counts : LobbyCounts
