-- What is written of a field is a spelling of it, and is read as it again, whatever follows.
use Rattle.std.proofs.Common.{◌≡◌, ℕ, ◌^◌, ◌<◌, Bool, List, ◌++◌, length, Ok, arith, refl}
use Rattle.std.specs.Int.{Width, w32}
use lib.IntN.{ℤ}
use mir.Val.{SFits}
use Rattle.mc_bytes.specs.Format.{Anything}
use Rattle.mc_bytes.specs.NumberLaws.{IsWide}
use Rattle.mc_bytes.specs.Signed.{signed}
use Rattle.mc_bytes.specs.SignedLaws.{signed_fits}
use Rattle.mc_fields.specs.declared.position.Cell.{Cell}
use Rattle.mc_fields.specs.Varint.{varint_read, varint_spelling}
use Rattle.mc_fields.specs.VarintLaws.{varint_only, varint_spelled, varint-fits, five}
use Rattle.mc_fields.specs.Text.{FitsText, text_read, text_spelling}
use Rattle.mc_fields.specs.TextLaws.{text_only, text_written}
use Rattle.mc_fields.specs.IntegerBytes.{signed_spells, signed_read, signed_spelling, boolean_read}
use Rattle.mc_fields.specs.IntegerBytes.{boolean_spelling}
use Rattle.mc_fields.specs.IntegerLaws.{boolean_only, boolean_spelled}
use Rattle.mc_fields.specs.PositionBits.{FitsCell, SpellsPosition, pack, position_read}
use Rattle.mc_fields.specs.PositionBits.{position_spelling}
use Rattle.mc_fields.specs.PositionLaws.{low_bits-below}
use Rattle.mc_fields.specs.Position.{position}

pub varint_again : (value : ℤ) → SFits w32 value → (rest : List ℕ)
    → varint_read 5 (varint_spelling value ++ rest) ≡ Ok (value, rest)
varint_again value fits rest =
    varint_only 5 Anything value (varint_spelling value) rest tt (varint_spelled 5 five value
    (varint-fits value fits))

pub text_again : (text : List ℕ) → length text < 2 ^ 31 → (points : ℕ) (rest : List ℕ)
    → FitsText points text → text_read points (text_spelling text ++ rest) ≡ Ok (text, rest)
text_again text sized points rest fits =
    text_only points Anything text (text_spelling text) rest tt (text_written points text fits
    sized)

pub boolean_again : (value : Bool) (rest : List ℕ)
    → boolean_read (boolean_spelling value ++ rest) ≡ Ok (value, rest)
boolean_again value rest =
    boolean_only Anything value (boolean_spelling value) rest tt (boolean_spelled value)

pub signed_spelled : (w : Width) → IsWide w → (value : ℤ) → SFits w value
    → signed_spells w value (signed_spelling w value)
signed_spelled w wide value fits =
    (signed {Rest = Anything} w wide).spelled value (signed_fits w value fits)

pub signed_again : (w : Width) → IsWide w → (value : ℤ) → SFits w value → (rest : List ℕ)
    → signed_read w (signed_spelling w value ++ rest) ≡ Ok (value, rest)
signed_again w wide value fits rest =
    (signed {Rest = Anything} w wide).only value (signed_spelling w value) rest tt
    (signed_spelled w wide value fits)

-- a packed place has 64 bits
pack-below : (cell : Cell) → FitsCell cell → pack cell < 2 ^ 64
pack-below cell fits =
    let x = low_bits-below (2 ^ 25) cell.x fits.x in
    let y = low_bits-below (2 ^ 11) cell.y fits.y in
    let z = low_bits-below (2 ^ 25) cell.z fits.z in
    omega (arith, x, y, z)

pub position_spelled : (cell : Cell) → FitsCell cell → SpellsPosition cell (position_spelling cell)
position_spelled cell fits = (fits, (pack-below cell fits, refl))

pub position_again : (cell : Cell) → FitsCell cell → (rest : List ℕ)
    → position_read (position_spelling cell ++ rest) ≡ Ok (cell, rest)
position_again cell fits rest =
    (position {Rest = Anything}).only cell (position_spelling cell) rest tt
    (position_spelled cell fits)
