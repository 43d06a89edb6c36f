-- What contracts see of a server, and what it keeps true of the numbers of connections.
use Rattle.std.specs.Prelude.{◌≡◌, ◌+◌, ◌<◌, ℕ, Bool, List, Option, Some, None}
use Rattle.std.specs.List.{AllByRecursion}
use Rattle.std.specs.Ordering.{nat_cmp}
use Rattle.std.specs.FinMap.{FinMap, get, keys}
use Rattle.mc_flush.specs.Lists.{ListValue}
use Rattle.mc_flush.specs.Seeing.{Parts, settled_parts}
use Rattle.mc_links.specs.Kept.{ConnectionValue}
use Rattle.mc_play.specs.Kept.{GameValue, land_of}

pub record ServerValue : Type 0 where
  pub game : GameValue
  -- by their numbers
  pub connections : FinMap nat_cmp ConnectionValue
  -- the number of the last join
  pub last : Option ℕ
  -- the players in play, and those that were shown at the last tick
  pub list : ListValue
  -- memory ran out
  pub failed : Bool

-- what was shown at the last tick
abbrev pub shown_parts : ServerValue → Parts
shown_parts v = settled_parts (land_of v.game) v.list

-- how many ticks came
abbrev pub age_of : ServerValue → ℕ
age_of v = v.game.game.age

-- ---- all connections, one by one

-- of two connections of one number both are there, and it holds of them, or none is
abbrev pub Both : (ConnectionValue → ConnectionValue → Type 0) → Option ConnectionValue →
    Option ConnectionValue → Type 0
Both R None None = Unit {0}
Both R (Some c) (Some d) = R c d
Both R old new = ⊥

-- it holds of each connection before and after
abbrev pub Each : (ℕ → ConnectionValue → ConnectionValue → Type 0) →
    FinMap nat_cmp ConnectionValue → FinMap nat_cmp ConnectionValue → Type 0
Each R old new = (k : ℕ) → Both (R k) (get old k) (get new k)

-- ---- what is true of every server

-- the least number that may join next
abbrev pub next_number : Option ℕ → ℕ
next_number None = 0
next_number (Some last) = last + 1

-- the numbers of the connections are those that are listed, and none is one that may join
pub record AreNumbers (ids : List ℕ) (connections : FinMap nat_cmp ConnectionValue)
    (last : Option ℕ) : Type 0 where
  pub are : ids ≡ keys connections
  pub below : AllByRecursion (λ (k : ℕ). k < next_number last) ids
