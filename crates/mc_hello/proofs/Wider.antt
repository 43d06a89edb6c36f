-- A text of a field that names a limit fits where no field does.
use Rattle.std.proofs.Common.{ℕ, ◌≤◌, List, arith}
use Rattle.mc_fields.specs.Text.{SpellableText}

wider : (few many : ℕ) (text : List ℕ) → few ≤ many → SpellableText few text →
    SpellableText many text
wider few many text le s = record {
  fits = record {
    utf8 = s.fits.utf8;
    few_bytes = omega (arith, s.fits.few_bytes, le);
    few_points = omega (arith, s.fits.few_points, le);
  };
  sized = s.sized;
}

pub wider_16 : (text : List ℕ) → SpellableText 16 text → SpellableText 32767 text
wider_16 text = wider 16 32767 text (omega arith)

pub wider_36 : (text : List ℕ) → SpellableText 36 text → SpellableText 32767 text
wider_36 text = wider 36 32767 text (omega arith)

pub wider_100 : (text : List ℕ) → SpellableText 100 text → SpellableText 32767 text
wider_100 text = wider 100 32767 text (omega arith)

pub wider_255 : (text : List ℕ) → SpellableText 255 text → SpellableText 32767 text
wider_255 text = wider 255 32767 text (omega arith)
