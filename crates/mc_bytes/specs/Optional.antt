-- The format of a value that is there where a field before it says so, and not there elsewhere.
use Rattle.std.specs.Prelude.{ℕ, Bool, List, Option}
use Rattle.mc_bytes.specs.Format.{Format}
use Rattle.mc_bytes.specs.OptionalBytes.{when_spells, when_fits, when_read, when_spelling}
use Rattle.mc_bytes.specs.OptionalBytes.{when_append, when_most}
use Rattle.mc_bytes.specs.OptionalLaws.{when_found, when_only, when_fit, when_spelled}
use Rattle.mc_bytes.specs.OptionalLaws.{when_appended}
use Rattle.mc_bytes.specs.OptionalLaws.{when_bounded}
pub use Rattle.mc_bytes.specs.OptionalBytes.{when_spells, when_fits, some_read, when_read}
pub use Rattle.mc_bytes.specs.OptionalBytes.{when_spelling, when_append, when_most}

abbrev pub when : {Rest : List ℕ → Type 0} {A : Type 0} → Bool → Format Rest A
    → Format Rest (Option A)
when {Rest} {A} there f = record {
  spells = when_spells there f.spells;
  read = when_read there f.read;
  fits = when_fits there f.fits;
  spelling = when_spelling f.spelling;
  append = when_append f.append;
  most = when_most f.most;
  found = when_found there f.spells f.read f.found;
  only = when_only Rest there f.spells f.read f.only;
  fit = when_fit there f.spells f.fits f.fit;
  spelled = when_spelled there f.spells f.fits f.spelling f.spelled;
  appended = when_appended f.spelling f.append f.appended;
  bounded = when_bounded there f.spells f.most f.bounded;
}
