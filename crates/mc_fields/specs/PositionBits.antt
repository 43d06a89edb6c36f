-- Positions of blocks, of the page 'Data types' of wiki.vg for protocol 47: 64 bits, of which the
-- 26 at the top are x, the next 12 are y and the 26 at the bottom are z, each in two's complement.
use Rattle.std.specs.Prelude.{ℕ, suc, ◌+◌, ◌-◌, ◌*◌, ◌/◌, ◌%◌, ◌^◌, ◌<◌, nat_lt, List}
use Rattle.std.specs.Prelude.{if◌then◌else◌}
use lib.IntN.{ℤ, pos, negsuc}
use Rattle.std.specs.Int.{w64}
use Rattle.mc_bytes.specs.Reading.{Field}
use Rattle.mc_bytes.specs.CombineBytes.{view_read}
use Rattle.mc_bytes.specs.NumberBytes.{number_read, number_spells, number_spelling}
use Rattle.mc_fields.specs.declared.position.Cell.{Cell}

-- numbers from -half to half - 1
abbrev pub FitsHalf : ℕ → ℤ → Type 0
FitsHalf half (pos n) = n < half
FitsHalf half (negsuc n) = n < half

-- such a number in two's complement
abbrev pub low_bits : ℕ → ℤ → ℕ
low_bits half (pos n) = n
low_bits half (negsuc n) = 2 * half - suc n

-- and back
abbrev pub signed_bits : ℕ → ℕ → ℤ
signed_bits half n = if nat_lt n half then pos n else negsuc (2 * half - suc n)

-- x and z have 26 bits, y has 12
pub record FitsCell (cell : Cell) : Type 0 where
  pub x : FitsHalf (2 ^ 25) cell.x
  pub y : FitsHalf (2 ^ 11) cell.y
  pub z : FitsHalf (2 ^ 25) cell.z

abbrev pub pack : Cell → ℕ
pack cell =
    low_bits (2 ^ 25) cell.x * 2 ^ 38 + low_bits (2 ^ 11) cell.y * 2 ^ 26 + low_bits (2 ^ 25) cell.z

abbrev pub unpack : ℕ → Cell
unpack word = record {
  x = signed_bits (2 ^ 25) (word / 2 ^ 38);
  y = signed_bits (2 ^ 11) (word / 2 ^ 26 % 2 ^ 12);
  z = signed_bits (2 ^ 25) (word % 2 ^ 26);
}

-- ---- the bytes of the word, the highest first

abbrev pub SpellsPosition : Cell → List ℕ → Type 0
SpellsPosition cell bytes = FitsCell cell × number_spells w64 (pack cell) bytes

abbrev pub position_read : List ℕ → Field Cell
position_read = view_read (number_read w64) unpack

abbrev pub position_spelling : Cell → List ℕ
position_spelling cell = number_spelling w64 (pack cell)
