-- Which bytes of a chunk have a fault, by what a reader of them answers.
use Rattle.std.proofs.Common.{◌≡◌, ℕ, ◌<◌, Bool, true, false, cond, List, length, Option}
use Rattle.std.proofs.Common.{Some, None, Result, Ok, Err, nat_lt, refl, subst, ap, ◌∙◌, arith}
use Rattle.std.proofs.lemmas.Bool.Decides.{nat_tests}
use Rattle.std.specs.Option.{unwrap_or}
use Rattle.mc_bytes.specs.declared.fault.FieldFault.{FieldFault}
use Rattle.mc_bytes.specs.declared.fault.Kind.TheVariants.{Short, BadLength}
use Rattle.mc_bytes.specs.declared.fault.ReadFault.{ReadFault}
use Rattle.mc_bytes.specs.declared.fault.ReadFault.TheVariants as faults
use Rattle.mc_bytes.specs.Placed.{PlacedGives, fault_at}
use Rattle.mc_column.specs.Body.{BodyValue, body_in, body_read, body_size}
use Rattle.mc_replica.specs.Faults.{fault_of}

pub told : (r : Result BodyValue ReadFault) (read : Result BodyValue FieldFault)
    (fault : FieldFault) → PlacedGives (λ (body : BodyValue). body) r read →
    r ≡ Err (faults.Field fault) → fault_of read ≡ Some fault
told r read fault gives e =
    ap fault_of
    (subst (λ (r : Result BodyValue ReadFault). PlacedGives (λ (body : BodyValue). body) r read)
    e gives)

same_fault : (a b : FieldFault) → Some a ≡ Some b → a ≡ b
same_fault a b e = ap (λ o. unwrap_or o a) e

below : (a b : ℕ) → nat_lt a b ≡ true → a < b
below a b e = grind (arith, nat_tests)

pub answered : (mask : ℕ) (sky ground_up : Bool) (bytes : List ℕ)
    (r : Result BodyValue ReadFault) (fault : FieldFault) →
    (length bytes < body_size mask sky ground_up →
    r ≡ Err (faults.Field (fault_at Short (length bytes)))) →
    (body_size mask sky ground_up < length bytes →
    r ≡ Err (faults.Field (fault_at BadLength (body_size mask sky ground_up)))) →
    fault_of (body_read mask sky ground_up bytes) ≡ Some fault → r ≡ Err (faults.Field fault)
unfolding body_read
answered mask sky ground_up bytes r fault short long is =
    step (nat_lt (length bytes) size) (nat_lt size (length bytes)) refl refl is
  where
    size : ℕ
    size = body_size mask sky ground_up

    step : (a b : Bool) → nat_lt (length bytes) size ≡ a → nat_lt size (length bytes) ≡ b →
        fault_of (cond a (Err (fault_at Short (length bytes)))
        (cond b (Err (fault_at BadLength size)) (Ok (body_in mask sky ground_up bytes)))) ≡
        Some fault → r ≡ Err (faults.Field fault)
    step true b e f is =
        short (below (length bytes) size e)
        ∙ ap (λ (x : FieldFault). Err (faults.Field x)) (same_fault _ fault is)
    step false true e f is =
        long (below size (length bytes) f)
        ∙ ap (λ (x : FieldFault). Err (faults.Field x)) (same_fault _ fault is)
    step false false e f is = absurd cc

-- an error of one result is that of another
pub passed_on : {T U E : Type 0} (e f : E) →
    ◌≡◌ {A = Result T E} (Err e) (Err f) → ◌≡◌ {A = Result U E} (Err e) (Err f)
passed_on {T = T} {E = E} e f is = ap (λ (r : Result T E). Err (fault_or r)) is
  where
    fault_or : Result T E → E
    fault_or (Ok x) = e
    fault_or (Err g) = g

-- a chunk that takes nothing away has the fault of its bytes
pub kept_fault : (t : Bool) (fault : Option FieldFault) → t ≡ false → cond t None fault ≡ fault
kept_fault t fault e = ap (λ (t : Bool). cond t None fault) e
