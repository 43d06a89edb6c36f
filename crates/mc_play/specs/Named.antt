-- Packs by names, as they are kept by strings.
use Rattle.std.specs.Prelude.{ℕ, List, map}
use Rattle.std.specs.FinMap.{FinMap, from_entries}
use Rattle.std.specs.declared.alloc.Global.{Global}
use Rattle.std.specs.declared.string.String.{String}
use Rattle.std.specs.String.{string_bytes}
use Rattle.mc_windows.specs.Pack.{PackValue}
use Rattle.mc_model.specs.Maps.{name_cmp}

abbrev pub named : List (String Global × PackValue) → List (List ℕ × PackValue)
named entries = map (λ (e : String Global × PackValue). (string_bytes e.0, e.1)) entries

abbrev pub packs_of : List (String Global × PackValue) → FinMap name_cmp PackValue
packs_of entries = from_entries (named entries)
