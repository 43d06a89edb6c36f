-- The format of a value that several others make: each spelling of each of these spells it.
use Rattle.std.specs.Prelude.{ℕ, List}
use Rattle.std.proofs.Common.{sym}
use Rattle.mc_bytes.specs.Format.{Format}
use Rattle.mc_bytes.specs.CombineBytes.{view_read}
use Rattle.mc_bytes.specs.MakingBytes.{SpellsMade}
use Rattle.mc_bytes.specs.MakingLaws.{IsMaking, IsMost, made_found, made_only, made_fit}
use Rattle.mc_bytes.specs.MakingLaws.{made_bounded}
pub use Rattle.mc_bytes.specs.MakingBytes.{SpellsMade}
pub use Rattle.mc_bytes.specs.MakingLaws.{IsMaking, IsMost}

-- what f spells, seen as what it makes; what is written is the spelling of what pick picks, and
-- most says how many bytes anything that makes a value has at most
abbrev pub from : {Rest : List ℕ → Type 0} {A B : Type 0} (f : Format Rest A) (Fits : B
    → Type 0) (make : A → B) (pick : B → A) (most : B → ℕ) → IsMaking f.fits Fits make pick
    → IsMost f.fits make f.most most → Format Rest B
from {Rest} {A} {B} f Fits make pick most making is_most = record {
  spells = SpellsMade f.spells make;
  read = view_read f.read make;
  fits = Fits;
  spelling = λ b. f.spelling (pick b);
  append = λ b out. f.append (pick b) out;
  most = most;
  found = made_found f.spells f.read make f.found;
  only = made_only Rest f.spells f.read make f.only;
  fit = made_fit f.spells f.fits Fits make making.made f.fit;
  spelled = λ b fits. record {
    source = pick b;
    makes = sym (making.same b fits);
    spelled = f.spelled (pick b) (making.picked b fits);
  };
  appended = λ b out. f.appended (pick b) out;
  bounded = made_bounded f.spells f.fits make f.most most is_most f.fit f.bounded;
}
