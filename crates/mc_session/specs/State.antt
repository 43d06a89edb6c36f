-- How far one connection has come.
use Rattle.std.specs.Prelude.{ℕ}
use lib.IntN.{ℤ, pos}
use Rattle.mc_model.specs.declared.stage.Stage.{Stage}
use Rattle.mc_model.specs.declared.stage.Stage.TheVariants.{Hand}

-- its stage, and the protocol that its handshake named
pub record State : Type 0 where
  pub stage : Stage
  pub protocol : ℤ

-- nothing came of it yet
abbrev pub new_state : State
new_state = record { stage = Hand; protocol = pos 0 }

-- the numbers that a status tells: how many players may be in play, and how many are
pub record Told : Type 0 where
  pub most : ℕ
  pub online : ℕ
