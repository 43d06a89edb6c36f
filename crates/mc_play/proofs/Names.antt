-- A name is short.
use Rattle.std.proofs.Common.{ℕ, ◌≤◌, IsTrue, List, length, arith}
use Rattle.mc_model.specs.Names.{is_name}
use Rattle.mc_model.proofs.FitsText.{name_short}

-- so that a line and a list of players can have it
pub name_few : (name : List ℕ) → IsTrue (is_name name) → length name ≤ 64
name_few name is = let short = name_short name is in omega (arith, short.few)
