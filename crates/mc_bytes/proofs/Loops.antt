-- Reading one field after another, as a loop does.
use Rattle.std.proofs.Common.{◌≡◌, ℕ, zero, suc, ◌-◌, ◌+◌, ◌≤◌, ◌<◌, List, [], ◌∷◌, ◌++◌, length}
use Rattle.std.proofs.Common.{Option, Some, None, Ok, Err, refl, sym, ap, ◌∙◌, append_assoc, arith}
use Rattle.std.proofs.lemmas.List.{append-nil}
use Rattle.mc_bytes.specs.declared.fault.Stop.{Stop}
use Rattle.mc_bytes.specs.declared.fault.ReadError.{ReadError}
use Rattle.mc_bytes.specs.declared.fault.ReadError.TheVariants as errors
use Rattle.mc_bytes.specs.Reading.{Field, ◌>>=◌, Fails}
use Rattle.mc_bytes.specs.Times.{times_at, until_at}

-- what was read before, and what is still read
abbrev pub with_front : {A : Type 0} → List A → Field (List A) → Field (List A)
with_front front read = read >>= λ x. Ok (front ++ x.0, x.1)

regroup : {A : Type 0} (front : List A) (y : A) (read : Field (List A)) →
    with_front front (read >>= λ x. Ok (y ∷ x.0, x.1)) ≡ with_front (front ++ y ∷ []) read
regroup {A} front y (Ok x) = ap (λ (ys : List A). let r : Field (List A) = Ok (ys, x.1) in
    r) (simp append_assoc)
regroup front y (Err f) = refl

-- ---- a number of them

pub times_next : {A : Type 0} (read : List ℕ → Field A) (front : List A) (count i : ℕ)
    (bytes : List ℕ) (y : A) (after : List ℕ) (total : Field (List A)) → i < count →
    read bytes ≡ Ok (y, after)
    → with_front front (times_at read (count - i) bytes) ≡ total →
    with_front (front ++ y ∷ []) (times_at read (count - (i + 1)) after) ≡ total
unfolding times_at
times_next read front count i bytes y after total lt h so_far =
    let k : count - i ≡ suc (count - (i + 1)) = omega arith in
    let one : with_front front (times_at read (count - i) bytes) ≡
    with_front (front ++ y ∷ []) (times_at read (count - (i + 1)) after) =
    rw (k, h) (regroup front y (times_at read (count - (i + 1)) after)) in
    sym one ∙ so_far

pub times_stop : {A : Type 0} (read : List ℕ → Field A) (e : ReadError) (front : List A)
    (count i : ℕ) (bytes : List ℕ) (total : Field (List A)) → i < count → Fails e (read bytes)
    → with_front front (times_at read (count - i) bytes) ≡ total → Fails e total
unfolding times_at
times_stop read errors.NoMemory front count i bytes total lt h so_far = tt
times_stop {A} read (errors.Stop f) front count i bytes total lt h so_far =
    let k : count - i ≡ suc (count - (i + 1)) = omega arith in
    let one : with_front front (times_at read (count - i) bytes) ≡ Err f = rw (k, h) refl in
    sym so_far ∙ one

pub times_halt : {A : Type 0} (read : List ℕ → Field A) (f : Stop) (front : List A) (count i : ℕ)
    (bytes : List ℕ) (total : Field (List A)) → i < count → read bytes ≡ Err f
    → with_front front (times_at read (count - i) bytes) ≡ total → total ≡ Err f
times_halt read f front count i bytes total lt h so_far = times_stop read (errors.Stop f) front
    count i bytes total lt h so_far

pub times_done : {A : Type 0} (read : List ℕ → Field A) (front : List A) (count i : ℕ)
    (bytes : List ℕ) (total : Field (List A)) → count ≤ i →
    with_front front (times_at read (count - i) bytes) ≡ total → total ≡ Ok (front, bytes)
unfolding times_at
times_done {A} read front count i bytes total le so_far =
    let k : count - i ≡ 0 = omega arith in
    let one : with_front front (times_at read (count - i) bytes) ≡ Ok (front, bytes) =
    rw k (ap (λ (ys : List A). let r : Field (List A) = Ok (ys, bytes) in r) (append-nil front))
    in
    sym so_far ∙ one

pub times_first : {A : Type 0} (total : Field (List A)) → with_front [] total ≡ total
times_first (Ok x) = refl
times_first (Err f) = refl

-- ---- as many as come before an end

-- what a loop keeps: with some fuel above the number of bytes, all that is read is what was read
-- and what is still read
pub record IsUnderway {A : Type 0} (step : List ℕ → Field (Option A)) (front : List A)
    (bytes : List ℕ) (total : Field (List A)) : Type 0 where
  pub fuel : ℕ
  pub enough : length bytes < fuel
  pub all : with_front front (until_at step fuel bytes) ≡ total

pub until_begins : {A : Type 0} (step : List ℕ → Field (Option A)) (bytes : List ℕ) →
    IsUnderway step [] bytes (until_at step (suc (length bytes)) bytes)
until_begins step bytes = record {
  fuel = suc (length bytes);
  enough = omega arith;
  all = times_first _;
}

until_step_more : {A : Type 0} (step : List ℕ → Field (Option A)) (front : List A) (fuel : ℕ)
    (bytes : List ℕ) (y : A) (after : List ℕ) (total : Field (List A)) → length bytes < fuel →
    length after < length bytes → step bytes ≡ Ok (Some y, after)
    → with_front front (until_at step fuel bytes) ≡ total →
    IsUnderway step (front ++ y ∷ []) after total
unfolding until_at
until_step_more step front zero bytes y after total enough less h so_far = absurd (omega arith)
until_step_more step front (suc fuel) bytes y after total enough less h so_far =
    let one : with_front front (until_at step (suc fuel) bytes) ≡
    with_front (front ++ y ∷ []) (until_at step fuel after) =
    rw h (regroup front y (until_at step fuel after)) in
    record { fuel = fuel; enough = omega arith; all = sym one ∙ so_far }

pub until_next : {A : Type 0} (step : List ℕ → Field (Option A)) (front : List A) (bytes : List ℕ)
    (y : A) (after : List ℕ) (total : Field (List A)) → length after < length bytes →
    step bytes ≡ Ok (Some y, after)
    → IsUnderway step front bytes total → IsUnderway step (front ++ y ∷ []) after total
until_next step front bytes y after total less h u = until_step_more step front u.fuel bytes y after
    total u.enough less h u.all

until_stop_more : {A : Type 0} (step : List ℕ → Field (Option A)) (f : Stop) (front : List A)
    (fuel : ℕ) (bytes : List ℕ) (total : Field (List A)) → length bytes < fuel → step bytes ≡ Err f
    → with_front front (until_at step fuel bytes) ≡ total → total ≡ Err f
unfolding until_at
until_stop_more step f front zero bytes total enough h so_far = absurd (omega arith)
until_stop_more {A} step f front (suc fuel) bytes total enough h so_far =
    let one : with_front front (until_at step (suc fuel) bytes) ≡ Err f = rw h refl in
    sym so_far ∙ one

pub until_stop : {A : Type 0} (step : List ℕ → Field (Option A)) (e : ReadError) (front : List A)
    (bytes : List ℕ) (total : Field (List A)) → Fails e (step bytes) →
    IsUnderway step front bytes total → Fails e total
until_stop step errors.NoMemory front bytes total h u = tt
until_stop step (errors.Stop f) front bytes total h u = until_stop_more step f front u.fuel bytes
    total u.enough h u.all

until_done_more : {A : Type 0} (step : List ℕ → Field (Option A)) (front : List A) (fuel : ℕ)
    (bytes after : List ℕ) (total : Field (List A)) → length bytes < fuel →
    step bytes ≡ Ok (None, after)
    → with_front front (until_at step fuel bytes) ≡ total → total ≡ Ok (front, after)
unfolding until_at
until_done_more step front zero bytes after total enough h so_far = absurd (omega arith)
until_done_more {A} step front (suc fuel) bytes after total enough h so_far =
    let one : with_front front (until_at step (suc fuel) bytes) ≡ Ok (front, after) =
    rw h (ap (λ (ys : List A). let r : Field (List A) = Ok (ys, after) in r) (append-nil front))
    in
    sym so_far ∙ one

pub until_done : {A : Type 0} (step : List ℕ → Field (Option A)) (front : List A)
    (bytes after : List ℕ) (total : Field (List A)) → step bytes ≡ Ok (None, after) →
    IsUnderway step front bytes total → total ≡ Ok (front, after)
until_done step front bytes after total h u = until_done_more step front u.fuel bytes after total
    u.enough h u.all
