-- How often calls of a lobby failed, stalled and broke; and what of that causes an answer (rules of
-- this project).
use Rattle.std.specs.Prelude.{◌≡◌, ℕ, ◌⊎◌}
use Rattle.mc_wire.specs.declared.answers.Wrote.{Wrote}
use Rattle.mc_wire.specs.declared.answers.Wrote.TheVariants.{Took, Stalled, Broken}
use Rattle.mc_wire.specs.Count.{Rose, NeverFalls, raised}
use Rattle.mc_wire.specs.LobbyAnswers.{IsInPiece}

-- how many calls failed, and how many writes stalled and broke
pub record LobbyCounts : Type 0 where
  pub faults : ℕ
  pub stalls : ℕ
  pub breaks : ℕ

-- none yet
abbrev pub no_counts : LobbyCounts
no_counts = record { faults = 0; stalls = 0; breaks = 0 }

-- none fell in a call
pub record NoneFalls (old new : LobbyCounts) : Type 0 where
  pub faults : NeverFalls old.faults new.faults
  pub stalls : NeverFalls old.stalls new.stalls
  pub breaks : NeverFalls old.breaks new.breaks

-- over any number of calls, and over none
abbrev pub StandOrRise : LobbyCounts → LobbyCounts → Type 0
StandOrRise old new = (new ≡ old) ⊎ NoneFalls old new

-- after one more call that failed
abbrev pub with_fault : LobbyCounts → LobbyCounts
with_fault counts = record counts { faults = raised counts.faults }

-- after a write that answered so
abbrev pub with_write : Wrote → LobbyCounts → LobbyCounts
with_write (Took n) counts = counts
with_write Stalled counts = record counts { stalls = raised counts.stalls }
with_write Broken counts = record counts { breaks = raised counts.breaks }

-- a write of so many bytes took some of them, or the count of its answer rose
abbrev pub HasCause : Wrote → ℕ → LobbyCounts → LobbyCounts → Type 0
HasCause (Took n) size old new = IsInPiece (Took n) size
HasCause Stalled size old new = Rose old.stalls new.stalls
HasCause Broken size old new = Rose old.breaks new.breaks
