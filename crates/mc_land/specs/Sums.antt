-- What is counted in a kept land, column by column.
use Rattle.std.specs.Prelude.{ℕ, length}
use Rattle.mc_land.specs.Ready.{ReadyValue}
use Rattle.mc_land.specs.Kept.{changes}

-- how many cells of a column are not the terrain's
abbrev pub changes_in : ReadyValue → ℕ
changes_in ready = length (changes ready.terrain ready.place ready.present.states)
