-- The formats of whole numbers and truth values, of the page 'Data types' of wiki.vg for protocol
-- 47.
use Rattle.std.specs.Prelude.{ℕ, Bool, List, ◌++◌, refl}
use Rattle.std.specs.Int.{w8, w16, w32, w64, w128}
use lib.IntN.{ℤ}
use Rattle.mc_bytes.specs.Format.{Format}
use Rattle.mc_bytes.specs.NumberLaws.{wide_8, wide_16, wide_32, wide_64}
use Rattle.mc_bytes.specs.Numbers.{number}
use Rattle.mc_bytes.specs.Signed.{signed}
use Rattle.mc_bytes.specs.SixteenLaws.{wide_128}
use Rattle.mc_fields.specs.IntegerBytes.{SpellsBool, boolean_spelling, boolean_read}
use Rattle.mc_fields.specs.IntegerLaws.{boolean_found, boolean_only, boolean_spelled}
use Rattle.mc_fields.specs.IntegerLaws.{boolean_bounded}
pub use Rattle.mc_fields.specs.IntegerBytes.{signed_spells, is_true, bool_byte, SpellsBool}
pub use Rattle.mc_fields.specs.IntegerBytes.{boolean_spelling, boolean_read, ReadsFixed}

abbrev pub byte : {Rest : List ℕ → Type 0} → Format Rest ℤ
byte {Rest} = signed {Rest = Rest} w8 wide_8

abbrev pub ubyte : {Rest : List ℕ → Type 0} → Format Rest ℕ
ubyte {Rest} = number {Rest = Rest} w8 wide_8

abbrev pub short : {Rest : List ℕ → Type 0} → Format Rest ℤ
short {Rest} = signed {Rest = Rest} w16 wide_16

abbrev pub ushort : {Rest : List ℕ → Type 0} → Format Rest ℕ
ushort {Rest} = number {Rest = Rest} w16 wide_16

abbrev pub int : {Rest : List ℕ → Type 0} → Format Rest ℤ
int {Rest} = signed {Rest = Rest} w32 wide_32

abbrev pub long : {Rest : List ℕ → Type 0} → Format Rest ℤ
long {Rest} = signed {Rest = Rest} w64 wide_64

-- the patterns of numbers with a fraction, as they are
abbrev pub float : {Rest : List ℕ → Type 0} → Format Rest ℕ
float {Rest} = number {Rest = Rest} w32 wide_32

abbrev pub double : {Rest : List ℕ → Type 0} → Format Rest ℕ
double {Rest} = number {Rest = Rest} w64 wide_64

abbrev pub uuid : {Rest : List ℕ → Type 0} → Format Rest ℕ
uuid {Rest} = number {Rest = Rest} w128 wide_128

abbrev pub boolean : {Rest : List ℕ → Type 0} → Format Rest Bool
boolean {Rest} = record {
  spells = SpellsBool;
  read = boolean_read;
  fits = λ value. Unit {0};
  spelling = boolean_spelling;
  append = λ value out. out ++ boolean_spelling value;
  most = λ value. 1;
  found = boolean_found;
  only = boolean_only Rest;
  fit = λ value bytes s. tt;
  spelled = λ value fits. boolean_spelled value;
  appended = λ value out. refl;
  bounded = boolean_bounded;
}
