use Rattle.std.specs.Prelude.{ℕ}

-- a source of the outside: its reader, how many failures it counted, and how many answers it still
-- gives
pub record InputState (R : Type 0) : Type 0 where
  pub reader : R
  pub faults : ℕ
  pub answers : ℕ

-- a sink of the outside: its writer, and how many failures it counted
pub record OutputState (W : Type 0) : Type 0 where
  pub writer : W
  pub faults : ℕ
