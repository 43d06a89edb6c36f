-- What the test of a text answers.
use Rattle.std.proofs.Common.{◌≡◌, ℕ, ◌<◌, ◌≤◌, false, List, length, Ok, Err, refl}
use Rattle.std.proofs.Common.{arith}
use Rattle.std.proofs.lemmas.Bool.Decides.{nat_tests}
use Rattle.std.specs.Str.{IsUtf8, is_utf8, chars}
use Rattle.std.proofs.lemmas.Str.{IsUtf8-from_is_utf8, is_utf8-from_IsUtf8}
use Rattle.mc_bytes.specs.declared.fault.Kind.TheVariants.{BadText, TooLong}
use Rattle.mc_fields.specs.Text.{checked_text}

not_utf8 : (bytes : List ℕ) → ¬ IsUtf8 bytes → is_utf8 bytes ≡ false
not_utf8 bytes isnt = grind (arith, nat_tests, IsUtf8-from_is_utf8)

pub checked_text-bad : (points : ℕ) (bytes : List ℕ) → ¬ IsUtf8 bytes → checked_text points bytes ≡
    Err BadText
checked_text-bad points bytes isnt = rw (not_utf8 bytes isnt) refl

pub checked_text-long : (points : ℕ) (bytes : List ℕ) → IsUtf8 bytes →
    points < length (chars bytes) → checked_text points bytes ≡ Err TooLong
checked_text-long points bytes is long = grind (arith, nat_tests, is_utf8-from_IsUtf8)

pub checked_text-fits : (points : ℕ) (bytes : List ℕ) → IsUtf8 bytes →
    length (chars bytes) ≤ points → checked_text points bytes ≡ Ok bytes
checked_text-fits points bytes is short = grind (arith, nat_tests, is_utf8-from_IsUtf8)
