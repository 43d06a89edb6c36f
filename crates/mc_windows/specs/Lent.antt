-- What a chest that may be lent holds, before a call and after it.
use Rattle.std.specs.Prelude.{Option, Some, None, ◌⊎◌}
use Rattle.std.specs.Borrow.{MutBor}
use Rattle.std.proofs.Common.{inl, inr}

abbrev pub lent : {A : Type 0} → Option (MutBor A) → Option A
lent None = None
lent (Some chest) = Some chest.now

abbrev pub left_in : {A : Type 0} → Unit {0} ⊎ ((MutBor A × Unit {0}) ⊎ ⊥) → Option A
left_in (inl u) = None
left_in (inr (inl chest)) = Some chest.0.now
left_in (inr (inr z)) = absurd z
