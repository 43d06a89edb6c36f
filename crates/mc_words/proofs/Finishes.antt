-- Writing the last line of a command.
use Rattle.std.proofs.Common.{◌≡◌, ℕ, List, length, take, Option, Result}
use Rattle.std.proofs.Common.{arith}
use Rattle.std.proofs.lemmas.Bool.Decides.{nat_tests}
use Rattle.std.specs.Prelude.{IsOk, OnOk, OnErr}
use Rattle.mc_wire.specs.Count.{Rose}
use Rattle.mc_wire.specs.Stream.{Grows}
use Rattle.mc_words.specs.declared.bad_input.BadInput.{BadInput}
use Rattle.mc_words.specs.declared.ended.Ended.{Ended}
use Rattle.mc_words.specs.declared.ended.Ended.TheVariants as ended
use Rattle.mc_words.specs.declared.refusal.Refusal.{Refusal}
use Rattle.mc_words.specs.Devices.{WroteLast}
use Rattle.mc_words.specs.Ended.{fixed_line_of}
use Rattle.mc_words.specs.Finishing.{Finishes}

-- a last line was written, or a part of it where the sink failed
pub wrote_last : {E : Type 0} (r : Result (Unit {0}) E) (held held' : Option (List ℕ))
    (faults faults' : ℕ) (piece line : List ℕ) → OnOk r (Grows held held' piece) →
    OnErr r ((n : ℕ) × Grows held held' (take n piece)) → OnErr r (Rose faults faults') →
    piece ≡ line → WroteLast held held' faults faults' line
wrote_last r held held' faults faults' piece line whole part failed is = grind (arith, nat_tests)

-- a last line that is always the same was written, or there is none
pub finishes_fixed : {E : Type 0} (A : Type 0) (view : A → Option (List ℕ))
    (count : A → ℕ) (how : Ended) (r : Result (Unit {0}) E) (old new : A) (piece : List ℕ) →
    ((bad : BadInput) → how ≡ ended.BadInput bad → ⊥) → ((n : ℕ) → how ≡ ended.Budget n → ⊥) →
    ((why : Refusal) → how ≡ ended.Refused why → ⊥) → piece ≡ fixed_line_of how → OnOk r (Grows (view old) (view new) piece) →
    OnErr r ((n : ℕ) × Grows (view old) (view new) (take n piece)) →
    OnErr r (Rose (count old) (count new)) → (length piece ≡ 0 → IsOk r × (new ≡ old)) →
    Finishes how how (view old) (view new) (count old) (count new)
finishes_fixed A view count how r old new piece no_bad no_budget no_refusal is whole part failed empty =
    grind (arith, nat_tests)
