-- All bytes that are left, as they are: what spells them and what reading gives.
use Rattle.std.specs.Prelude.{◌≡◌, ℕ, List, [], Ok}
use Rattle.mc_bytes.specs.Reading.{Field}

abbrev pub rest_spells : List ℕ → List ℕ → Type 0
rest_spells value bytes = bytes ≡ value

abbrev pub rest_read : List ℕ → Field (List ℕ)
rest_read bytes = Ok (bytes, [])
