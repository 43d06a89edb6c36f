-- Formats made of formats: each is its definitions beside the laws of these.
use Rattle.std.specs.Prelude.{◌≡◌, ℕ, ◌+◌, Bool, true, List, [], ◌++◌, refl}
use Rattle.mc_bytes.specs.declared.fault.Kind.{Kind}
use Rattle.mc_bytes.specs.Format.{Format, Anything, Nothing}
use Rattle.mc_bytes.specs.CombineBytes.{Sequence, sequence_read, sequence_append, tested_read}
use Rattle.mc_bytes.specs.CombineBytes.{tested_spells, view_spells, view_read, none_spells}
use Rattle.mc_bytes.specs.CombineBytes.{none_read}
use Rattle.mc_bytes.specs.CombineLaws.{sequence_found, sequence_only, sequence_fit}
use Rattle.mc_bytes.specs.CombineLaws.{sequence_spelled}
use Rattle.mc_bytes.specs.CombineLaws.{sequence_appended, sequence_bounded, tested_found}
use Rattle.mc_bytes.specs.CombineLaws.{tested_only}
use Rattle.mc_bytes.specs.CombineLaws.{IsView, view_found, view_only, none_found, none_only}
use Rattle.mc_bytes.specs.CombineLaws.{none_appended, none_bounded}
pub use Rattle.mc_bytes.specs.CombineBytes.{Sequence, tested_read, tested_spells, view_spells}
pub use Rattle.mc_bytes.specs.CombineBytes.{view_read}
pub use Rattle.mc_bytes.specs.CombineLaws.{IsView, bind_ok, ok_is, passed, Found-is, joined}
pub use Rattle.mc_bytes.specs.CombineLaws.{joined_length, checked_ok}

-- ---- one after another; how the second is spelled may depend on the first value

infixr 5 ◌then◌
abbrev pub ◌then◌ : {Rest : List ℕ → Type 0} {A B : Type 0} → Format Anything A → (A
    → Format Rest B) → Format Rest (A × B)
◌then◌ {Rest} {A} {B} f g = record {
  spells = Sequence f.spells (λ a. (g a).spells);
  read = sequence_read f.read (λ a. (g a).read);
  fits = λ v. f.fits v.0 × (g v.0).fits v.1;
  spelling = λ v. f.spelling v.0 ++ (g v.0).spelling v.1;
  append = sequence_append f.append (λ a. (g a).append);
  most = λ v. f.most v.0 + (g v.0).most v.1;
  found = sequence_found f.spells f.read (λ a. (g a).spells) (λ a. (g a).read) f.found
      (λ a. (g a).found);
  only = sequence_only Rest f.spells f.read (λ a. (g a).spells) (λ a. (g a).read) f.only
      (λ a. (g a).only);
  fit = sequence_fit f.spells f.fits (λ a. (g a).spells) (λ a. (g a).fits) f.fit (λ a. (g a).fit);
  spelled = sequence_spelled f.spells f.fits f.spelling (λ a. (g a).spells) (λ a. (g a).fits)
      (λ a. (g a).spelling) f.spelled (λ a. (g a).spelled);
  appended = sequence_appended f.spelling f.append (λ a. (g a).spelling) (λ a. (g a).append)
      f.appended (λ a. (g a).appended);
  bounded = sequence_bounded f.spells f.most (λ a. (g a).spells) (λ a. (g a).most) f.bounded
      (λ a. (g a).bounded);
}

-- ---- a value that passes a test, or else a fault at its place

abbrev pub tested : {Rest : List ℕ → Type 0} {A : Type 0} → Format Rest A → (A → Bool) → Kind
    → Format Rest A
tested {Rest} {A} f test kind = record {
  spells = tested_spells f.spells test;
  read = tested_read f.read test kind;
  fits = λ a. f.fits a × (test a ≡ true);
  spelling = f.spelling;
  append = f.append;
  most = f.most;
  found = tested_found f.spells f.read test kind f.found;
  only = tested_only Rest f.spells f.read test kind f.only;
  fit = λ a bytes s. (f.fit a bytes s.0, s.1);
  spelled = λ a fits. (f.spelled a fits.0, fits.1);
  appended = f.appended;
  bounded = λ a bytes s. f.bounded a bytes s.0;
}

-- ---- bytes of one value, seen as another

abbrev pub via : {Rest : List ℕ → Type 0} {A B : Type 0} (f : Format Rest A) (Fits : B
    → Type 0) (make : A → B) (back : B → A) → IsView f.fits Fits make back → Format Rest B
via {Rest} {A} {B} f Fits make back view = record {
  spells = view_spells f.spells Fits back;
  read = view_read f.read make;
  fits = λ b. Fits b × f.fits (back b);
  spelling = λ b. f.spelling (back b);
  append = λ b out. f.append (back b) out;
  most = λ b. f.most (back b);
  found = view_found f.spells f.read f.fits Fits make back view f.fit f.found;
  only = view_only Rest f.spells f.read f.fits Fits make back view f.only;
  fit = λ b bytes s. (s.0, f.fit (back b) bytes s.1);
  spelled = λ b fits. (fits.0, f.spelled (back b) fits.1);
  appended = λ b out. f.appended (back b) out;
  bounded = λ b bytes s. f.bounded (back b) bytes s.1;
}

-- ---- the last field of a frame: nothing may follow it

abbrev pub last : {A : Type 0} → Format Anything A → Format Nothing A
last {A} f = record {
  spells = f.spells;
  read = f.read;
  fits = f.fits;
  spelling = f.spelling;
  append = f.append;
  most = f.most;
  found = f.found;
  only = λ a front rest ends s. f.only a front rest tt s;
  fit = f.fit;
  spelled = f.spelled;
  appended = f.appended;
  bounded = f.bounded;
}

-- ---- no field at all

abbrev pub none : {Rest : List ℕ → Type 0} → Format Rest (Unit {0})
none {Rest} = record {
  spells = none_spells;
  read = none_read;
  fits = λ value. Unit {0};
  spelling = λ value. [];
  append = λ value out. out;
  most = λ value. 0;
  found = none_found;
  only = none_only Rest;
  fit = λ value bytes s. tt;
  spelled = λ value fits. refl;
  appended = none_appended;
  bounded = none_bounded;
}
