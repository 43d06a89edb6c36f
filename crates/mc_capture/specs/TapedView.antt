-- What contracts see of a taped lobby, through what its lobby and its sink tell (rules of this
-- project).
use Rattle.std.specs.Prelude.{◌&&◌, ℕ, Bool, Option, List}
use Rattle.mc_wire.specs.LobbyCounts.{LobbyCounts}
use Rattle.mc_capture.specs.declared.taped.Taped.{Taped}
use Rattle.mc_capture.specs.Tape.{TapeMark, counts_with}

-- how far its capture is
abbrev pub mark_of : {L O : Type 0} → (O → Option (List ℕ)) → (O → ℕ) → Taped L O → TapeMark
mark_of held faults taped = record {
  state = taped.state;
  held = held taped.out.now;
  faults = faults taped.out.now;
}

-- it listens where a `listen` of its own answered Ok
abbrev pub listens_in : {L O : Type 0} → (L → Bool) → Taped L O → Bool
listens_in listens taped = taped.heard && listens taped.lobby.now

-- what was counted, with its own answers to a sink that failed
abbrev pub counts_in : {L O : Type 0} → (L → LobbyCounts) → Taped L O → LobbyCounts
counts_in counts taped = counts_with taped.own_faults (counts taped.lobby.now)
