-- How the events that a lobby in memory has still to give are kept: bytes that were given in part,
-- and the events behind them, the last one first.
use Rattle.std.specs.Prelude.{Option, None, Some, List, [], ◌∷◌, ◌++◌, reverse}
use Rattle.mc_wire.specs.declared.part.Part.{Part}
use Rattle.mc_wire.specs.declared.log.LogEntry.{LogEntry}
use Rattle.mc_wire.specs.declared.log.LogEntry.TheVariants.{Came}

-- bytes that were given in part, as an entry
abbrev pub part_entries : Option Part → List LogEntry
part_entries None = []
part_entries (Some part) = Came part.from part.rest ∷ []

-- the events in their order
abbrev pub upcoming_entries : Option Part → List LogEntry → List LogEntry
upcoming_entries part behind = part_entries part ++ reverse behind
