-- How what a lobby tells changes over calls, where it still tells it at their end: a lobby may stop
-- telling, and never begins again (a rule of this project).
use Rattle.std.specs.Prelude.{◌≡◌, Option, None, Some, List}
use Rattle.mc_wire.specs.declared.log.LogEntry.{LogEntry}
use Rattle.mc_wire.specs.LobbyTold.{LobbyTold, with_entries}

-- what is told became this change of what was told
abbrev pub ToldBecomes : Option LobbyTold → Option LobbyTold → (LobbyTold → LobbyTold) → Type 0
ToldBecomes old None change = Unit {0}
ToldBecomes None (Some new) change = ⊥
ToldBecomes (Some old) (Some new) change = new ≡ change old

-- these answers were added to the log, and nothing else changed
abbrev pub Logs : Option LobbyTold → Option LobbyTold → List LogEntry → Type 0
Logs old new entries = ToldBecomes old new (with_entries entries)

-- some answers were
abbrev pub HasLogged : Option LobbyTold → Option LobbyTold → Type 0
HasLogged old new = (entries : List LogEntry) × Logs old new entries
