-- Places of entities that stay within 32 bits.
use Rattle.std.specs.Prelude.{Option, Some, None, ◌&&◌, if◌then◌else◌}
use lib.IntN.{ℤ, ◌+ℤ◌}
use Rattle.mc_fields.specs.declared.position.Spot.{Spot}
use Rattle.mc_model.specs.Replica.{is_32_bits}

-- a spot, if its place is within 32 bits
abbrev pub within : Spot → Option Spot
within spot =
    if is_32_bits spot.x && is_32_bits spot.y && is_32_bits spot.z then Some spot else None

-- a sum, if it is within 32 bits
abbrev pub sum_within : ℤ → ℤ → Option ℤ
sum_within a d = if is_32_bits (a +ℤ d) then Some (a +ℤ d) else None
