-- The shortest spelling of a Request is read as one.
use Rattle.std.proofs.Common.{◌≡◌, ◌<◌, ◌≤◌, ℕ, List, [], ◌∷◌, Ok, true, arith, length, nat_eq}
use Rattle.std.proofs.Common.{refl, slice_index_or}
use Rattle.std.proofs.lemmas.Bool.Decides.{nat_tests}
use Rattle.mc_fields.specs.Row.{packet_of, packet_read}
use Rattle.mc_fields.specs.Varint.{groups_read}
use Rattle.mc_hello.specs.declared.status_up.StatusUp.TheVariants.{Request}
use Rattle.mc_hello.specs.StatusUp.{rows}

pub request_read : (frame : List ℕ) → 1 ≤ length frame → length frame < 2 →
    nat_eq (slice_index_or frame 0 0) 0 ≡ true →
    packet_of frame (packet_read rows frame) ≡ Ok Request
unfolding packet_read groups_read
request_read [] some few is = absurd (omega (arith, some))
request_read (id ∷ []) some few is = let zero_ : id ≡ 0 = grind (arith, nat_tests) in rw zero_ refl
request_read (id ∷ next ∷ more) some few is = absurd (omega (arith, few))
