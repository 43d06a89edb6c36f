-- The formats of bytes as they are and of whole numbers: their definitions beside the laws of
-- these.
use Rattle.std.specs.Prelude.{◌≡◌, ℕ, ◌^◌, ◌<◌, List, ◌++◌, length, refl}
use mir.Val.{bits}
use Rattle.std.specs.Int.{Width, byte_len}
use Rattle.mc_bytes.specs.Format.{Format}
use Rattle.mc_bytes.specs.NumberBytes.{octets_spells, octets_read, number_spelling, number_read}
use Rattle.mc_bytes.specs.NumberBytes.{number_spells}
use Rattle.mc_bytes.specs.NumberLaws.{octets_found, octets_only, octets_bounded, IsWide}
use Rattle.mc_bytes.specs.NumberLaws.{number_found}
use Rattle.mc_bytes.specs.NumberLaws.{number_only, number_bounded}
unfoldable pub use Rattle.mc_bytes.specs.NumberBytes.{octets_spells, octets_read, number_spelling}
unfoldable pub use Rattle.mc_bytes.specs.NumberBytes.{number_read, number_spells}
pub use Rattle.mc_bytes.specs.NumberLaws.{IsBytes-drop, IsBytes-take, IsBytes-after, IsWide, wide_8}
pub use Rattle.mc_bytes.specs.NumberLaws.{wide_16, wide_32, wide_64, octets_found, octets_only}
pub use Rattle.mc_bytes.specs.NumberLaws.{number_found, number_only}

-- ---- bytes as they are

-- so many bytes, as they are
abbrev pub octets : {Rest : List ℕ → Type 0} → ℕ → Format Rest (List ℕ)
octets {Rest} n = record {
  spells = octets_spells n;
  read = octets_read n;
  fits = λ value. length value ≡ n;
  spelling = λ value. value;
  append = λ value out. out ++ value;
  most = λ value. n;
  found = octets_found n;
  only = octets_only n Rest;
  fit = λ value bytes s. s.1;
  spelled = λ value fits. (refl, fits);
  appended = λ value out. refl;
  bounded = octets_bounded n;
}

-- ---- whole numbers

-- a number without a sign
abbrev pub number : {Rest : List ℕ → Type 0} (w : Width) → IsWide w → Format Rest ℕ
number {Rest} w wide = record {
  spells = number_spells w;
  read = number_read w;
  fits = λ n. n < 2 ^ bits w;
  spelling = number_spelling w;
  append = λ n out. out ++ number_spelling w n;
  most = λ n. byte_len w;
  found = number_found w wide;
  only = number_only w wide Rest;
  fit = λ n bytes s. s.0;
  spelled = λ n fits. (fits, refl);
  appended = λ n out. refl;
  bounded = number_bounded w wide;
}
