-- What a lobby of connections tells of itself, and what each call adds to that (a rule of this
-- project).
use Rattle.std.specs.Prelude.{ℕ, Option, None, Some, List, [], ◌∷◌, ◌++◌}
use Rattle.mc_wire.specs.declared.answers.Pace.{Pace}
use Rattle.mc_wire.specs.declared.log.LogEntry.{LogEntry}

-- the ports of all its `listen` calls, the last pace that it was told, and the log of its answers
pub record LobbyTold : Type 0 where
  pub ports : List ℕ
  pub pace : Option Pace
  pub log : List LogEntry

-- before the first call
abbrev pub nothing_called : LobbyTold
nothing_called = record { ports = []; pace = None; log = [] }

-- it was asked to listen on a port too
abbrev pub with_port : ℕ → LobbyTold → LobbyTold
with_port port told = record told { ports = told.ports ++ port ∷ [] }

-- it was told a pace
abbrev pub with_pace : Pace → LobbyTold → LobbyTold
with_pace pace told = record told { pace = Some pace }

-- it answered this too
abbrev pub with_entries : List LogEntry → LobbyTold → LobbyTold
with_entries entries told = record told { log = told.log ++ entries }
