-- The format of VarInts, of the page 'Data types' of wiki.vg for protocol 47.
use Rattle.std.specs.Prelude.{ℕ, ◌<◌, List, ◌++◌, refl}
use lib.IntN.{ℤ}
use Rattle.mc_bytes.specs.Format.{Format}
use Rattle.mc_fields.specs.Varint.{SpellsVarint, varint_read, varint_spelling}
use Rattle.mc_fields.specs.Varint.{FitsVarint, var_int_read}
use Rattle.mc_fields.specs.VarintLaws.{varint_found, varint_only, varint_fit, varint_spelled, five}
use Rattle.mc_fields.specs.VarintLaws.{var_int_found, var_int_only}
pub use Rattle.mc_fields.specs.Varint.{FitsVarint}
pub use Rattle.mc_fields.specs.VarintLaws.{IsChain-some, varint_only, varint_spelled, varint-fits}
pub use Rattle.mc_fields.specs.VarintLaws.{five}

-- a number in a VarInt of room bytes at most
abbrev pub varint_within : {Rest : List ℕ → Type 0} (room : ℕ) → 0 < room → Format Rest ℤ
varint_within {Rest} room some = record {
  spells = SpellsVarint room;
  read = varint_read room;
  fits = FitsVarint room;
  spelling = varint_spelling;
  append = λ value out. out ++ varint_spelling value;
  most = λ value. room;
  found = varint_found room;
  only = varint_only room Rest;
  fit = varint_fit room;
  spelled = varint_spelled room some;
  appended = λ value out. refl;
  bounded = λ value bytes s. s.within;
}

-- a VarInt
abbrev pub varint : {Rest : List ℕ → Type 0} → Format Rest ℤ
varint {Rest} = varint_within {Rest = Rest} 5 five

-- a VarInt as a field, whose reading stays folded in proofs
abbrev pub var_int : {Rest : List ℕ → Type 0} → Format Rest ℤ
var_int {Rest} = record {
  spells = SpellsVarint 5;
  read = var_int_read;
  fits = FitsVarint 5;
  spelling = varint_spelling;
  append = λ value out. out ++ varint_spelling value;
  most = λ value. 5;
  found = var_int_found;
  only = var_int_only Rest;
  fit = varint_fit 5;
  spelled = varint_spelled 5 five;
  appended = λ value out. refl;
  bounded = λ value bytes s. s.within;
}
