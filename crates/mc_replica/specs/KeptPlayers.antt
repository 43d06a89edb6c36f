-- How the list of players is kept: rows of rising identifiers, each with its name.
use Rattle.std.specs.Prelude.{ℕ, List, map}
use Rattle.mc_replica.specs.declared.player_list.Listed.{Listed}

abbrev pub row_of : Listed → ℕ × List ℕ
row_of listed = (listed.uuid, listed.name)

abbrev pub rows_of : List Listed → List (ℕ × List ℕ)
rows_of rows = map row_of rows
