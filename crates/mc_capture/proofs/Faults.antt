use Rattle.std.proofs.Common.{◌≡◌, ℕ, ◌+◌, ◌-◌, ◌^◌, ◌<◌, ◌≤◌, Option, List, ◌∷◌, ◌++◌, length, min}
use Rattle.std.proofs.Common.{refl, sym, ap, ◌∙◌, arith}
use Rattle.std.proofs.lemmas.List.{length-append}
use Rattle.mc_wire.specs.Stream.{Consumes, IsAtEnd}
use Rattle.mc_wire.proofs.Streams.{Consumes-trans}
use Rattle.mc_capture.specs.declared.fault.CaptureKind.TheVariants.{Short}
use Rattle.mc_capture.specs.declared.record.TheConstants.{KINDS}
use Rattle.mc_capture.specs.Grammar.{heading, most_bytes}
use Rattle.mc_capture.specs.Reading.{FindsWrong, IsFaultOf, kept_place}
use Rattle.mc_capture.specs.ReadingLaws.{heading_len}
use Rattle.mc_capture.specs.Reading.IsCut.{in_heading, in_bytes}

-- the place behind a record
pub place_after : (at result kind connection size : ℕ) (bytes : List ℕ)
    → result ≡ min (at + (9 + length bytes)) (2 ^ 64 - 1)
    → result ≡ kept_place (at + length (heading kind connection size ++ bytes))
place_after at result kind connection size bytes is =
    let len : length (heading kind connection size ++ bytes) ≡ 9 + length bytes =
    length-append (heading kind connection size) bytes
    ∙ ap (λ (n : ℕ). n + length bytes) (heading_len kind connection size) in
    is ∙ ap (λ (n : ℕ). min (at + n) (2 ^ 64 - 1)) (sym len)

-- a place in 64 bits is kept as it is
here : (at : ℕ) → at < 2 ^ 64 → at ≡ kept_place (at + 0)
here at fits = omega arith

-- bytes that end inside a heading
pub cut_heading : (bytes more : List ℕ) (kind at : ℕ)
    → bytes ≡ kind ∷ more
    → kind < KINDS
    → length bytes < 9
    → at < 2 ^ 64
    → IsFaultOf (record { kind = Short; at = at }) at bytes
cut_heading bytes more kind at parts known short fits = record {
  before = 0;
  wrong = (in_heading kind more parts known short, refl);
  place = here at fits;
}

-- bytes that end inside what a record carries
pub cut_bytes : (kind connection size at : ℕ) (carried : List ℕ)
    (old between new : Option (List ℕ))
    → Consumes old between (heading kind connection size)
    → Consumes between new carried
    → kind < KINDS
    → size ≤ most_bytes kind
    → length carried < size
    → IsAtEnd new
    → at < 2 ^ 64
    → FindsWrong (record { kind = Short; at = at }) at old new
cut_bytes kind connection size at carried old between new one two known within short end fits =
    record {
      bytes = heading kind connection size ++ carried;
      consumed = Consumes-trans old between new (heading kind connection size) carried one two;
      fault_of = record {
        before = 0;
        wrong = (in_bytes kind connection size carried known within refl short, refl);
        place = here at fits;
      };
      end = λ _. end;
    }
