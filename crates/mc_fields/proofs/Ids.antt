-- A packet's id has a VarInt.
use Rattle.std.proofs.Common.{ℤ}
use Rattle.std.specs.Prelude.{FitsSigned}
use Rattle.std.specs.Int.{w32}
use Rattle.mc_fields.specs.Varint.{FitsVarint}
use Rattle.mc_fields.specs.VarintLaws.{varint-fits}

pub id_fits : (id : ℤ) → FitsSigned w32 id → FitsVarint 5 id
id_fits = varint-fits
