-- The format of a number of values, one after another.
use Rattle.std.specs.Prelude.{◌≡◌, ℕ, List, length}
use Rattle.mc_bytes.specs.Format.{Format, Anything}
use Rattle.mc_bytes.specs.Times.{times_at, times_spells}
use Rattle.mc_bytes.specs.TimesLaws.{times_found}
use Rattle.mc_bytes.specs.ManyBytes.{AllFit, all_spelling, all_append, all_most}
use Rattle.mc_bytes.specs.ManyLaws.{times_only, all_fit, all_spelled, all_appended, all_bounded}
unfoldable pub use Rattle.mc_bytes.specs.ManyBytes.{AllFit, all_spelling, all_append, all_most}

-- so many values, one after another
abbrev pub times : {Rest : List ℕ → Type 0} {A : Type 0} → ℕ → Format Anything A
    → Format Rest (List A)
times {Rest} {A} n f = record {
  spells = times_spells f.spells n;
  read = times_at f.read n;
  fits = λ xs. (length xs ≡ n) × AllFit f.fits xs;
  spelling = all_spelling f.spelling;
  append = all_append f.append;
  most = all_most f.most;
  found = times_found f.spells f.read f.found n;
  only = times_only f.spells f.read f.only Rest n;
  fit = λ xs bytes s. (s.0, all_fit f.spells f.fits f.fit xs bytes s.1);
  spelled = λ xs fits. (fits.0, all_spelled f.spells f.fits f.spelling f.spelled xs fits.1);
  appended = all_appended f.spelling f.append f.appended;
  bounded = λ xs bytes s. all_bounded f.spells f.most f.bounded xs bytes s.1;
}
