-- What stands before the body in a packet that loads a column: its id and its other fields.
use Rattle.std.specs.Prelude.{ℕ, true, List, ◌++◌}
use Rattle.std.specs.Int.{w16, w32, cast_unsigned}
use lib.IntN.{pos}
use Rattle.mc_bytes.specs.Numbers.{number_spelling}
use Rattle.mc_fields.specs.Varint.{varint_spelling}
use Rattle.mc_fields.specs.Integers.{boolean_spelling}
use Rattle.mc_land.specs.Places.{Place}

abbrev pub load_head : Place → ℕ → ℕ → List ℕ
load_head place mask size =
    varint_spelling (pos 33) ++ number_spelling w32 (cast_unsigned w32 place.0)
    ++ number_spelling w32 (cast_unsigned w32 place.1)
    ++ boolean_spelling true ++ number_spelling w16 mask ++ varint_spelling (pos size)
