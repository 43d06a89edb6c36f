-- Laws of reading from an offset.
use Rattle.std.specs.Prelude.{◌≡◌, ℕ, ◌+◌, ◌-◌, ◌≤◌, List, ◌++◌, length, drop, slice_range, Result}
use Rattle.std.specs.Prelude.{Ok, Err, IfOk, refl}
use Rattle.std.proofs.Common.{sym, subst, ap, ◌∙◌, arith}
use Rattle.std.proofs.lemmas.List.{take_at, take-append-drop, length-append, length-drop}
use Rattle.mc_bytes.specs.declared.fault.Stop.{Stop}
use Rattle.mc_bytes.specs.declared.fault.FieldFault.{FieldFault}
use Rattle.mc_bytes.specs.declared.fault.ReadFault.{ReadFault}
use Rattle.mc_bytes.specs.Reading.{Field, IsBytes, Yields}
use Rattle.mc_bytes.specs.Format.{IsFound, IsOnly, Anything}
use Rattle.mc_bytes.specs.NumberLaws.{IsBytes-drop}
use Rattle.mc_bytes.specs.CombineLaws.{ok_is}
use Rattle.mc_bytes.specs.Placed.{SpelledAt, placed, with_rest, PlacedGives}

pub with_rest-Yields : {A : Type 0} (result : Result A Stop) (rest : List ℕ) (read : Field A)
    → Yields (λ x. (x, rest)) result read → with_rest result rest ≡ read
with_rest-Yields (Ok x) rest read e = sym e
with_rest-Yields (Err stop) rest read e = sym e

placed_ok : {A : Type 0} (bytes : List ℕ) (read : Field A) (r : A × ℕ) → placed bytes read ≡ Ok r
    → (x : A × List ℕ) × (read ≡ Ok x) × ((x.0, length bytes - length x.1) ≡ r)
placed_ok bytes (Ok x) r e = (x, refl, ok_is FieldFault _ _ e)
placed_ok bytes (Err stop) r e = absurd cc

SpelledAt-is : {A : Type 0} (spells : A → List ℕ
    → Type 0) (bytes : List ℕ) (start : ℕ) (r s : A × ℕ) → r ≡ s
    → SpelledAt (spells r.0) bytes start r.1 → SpelledAt (spells s.0) bytes start s.1
SpelledAt-is {A} spells bytes start r s e h =
    let P : A × ℕ → Type 0 = λ z. SpelledAt (spells z.0) bytes start z.1 in subst P e h

-- the front of what is left after an offset lies between two offsets
between : (bytes front rest : List ℕ) (start : ℕ) → start ≤ length bytes
    → drop start bytes ≡ front ++ rest
    → slice_range bytes start (length bytes - length rest) ≡ front
between bytes front rest start within parts =
    let left : length bytes - start ≡ length front + length rest = sym (length-drop start bytes) ∙
    ap length parts ∙ length-append front rest in
    let len : length front ≡ length bytes - length rest - start = omega (arith, left) in
    rw parts (take_at front rest (length bytes - length rest - start) len)

-- what is read from an offset is spelled there
pub placed_found : {A : Type 0} (spells : A → List ℕ → Type 0) (read : List ℕ → Field A)
    → IsFound spells read → (bytes : List ℕ) (start : ℕ) (r : A × ℕ) → IsBytes bytes
    → start ≤ length bytes → placed bytes (read (drop start bytes)) ≡ Ok r
    → SpelledAt (spells r.0) bytes start r.1
placed_found {A} spells read found bytes start r fits within e =
    let p = placed_ok bytes (read (drop start bytes)) r e in
    let f = found (drop start bytes) p.0 (IsBytes-drop start bytes fits) p.1 in
    let left : length bytes - start ≡ length f.front + length p.0.1 =
    sym (length-drop start bytes) ∙ ap length f.parts ∙ length-append f.front p.0.1 in
    SpelledAt-is spells bytes start (p.0.0, length bytes - length p.0.1) r p.2 (record {
      order = omega (arith, left);
      within = omega arith;
      spelled = subst (spells p.0.0) (sym (between bytes f.front p.0.1 start within f.parts))
          f.spelled;
    })

-- what is spelled at an offset is read from there
pub placed_only : {A : Type 0} (spells : A → List ℕ → Type 0) (read : List ℕ → Field A)
    → IsOnly Anything spells read → (bytes : List ℕ) (start : ℕ) (a : A) (end : ℕ)
    → SpelledAt (spells a) bytes start end → placed bytes (read (drop start bytes)) ≡ Ok (a, end)
placed_only {A} spells read only bytes start a end s =
    let parts : drop start bytes ≡ slice_range bytes start end ++
    drop (end - start) (drop start bytes) =
    sym (take-append-drop (end - start) (drop start bytes)) in
    let left : length (drop (end - start) (drop start bytes)) ≡ length bytes - end =
    omega (
      arith,
      s.order,
      s.within,
      length-drop (end - start) (drop start bytes),
      length-drop start bytes,
    ) in
    let place : length bytes - length (drop (end - start) (drop start bytes)) ≡ end =
    omega (arith, left, s.within) in
    ap (λ (t : List ℕ). placed bytes (read t)) parts ∙
    ap (placed bytes) (only a (slice_range bytes start end)
    (drop (end - start) (drop start bytes)) tt s.spelled) ∙ ap (λ (n : ℕ). Ok (a, n)) place

-- what a reader from an offset answers, seen from what its parts answered
pub placed-Yields : {A : Type 0} (bytes rest : List ℕ) (value : Result A Stop) (result : Result (A ×
    ℕ) FieldFault) (read : Field A)
    → result ≡ placed bytes (with_rest value rest) → Yields (λ x. (x, rest)) value read
    → result ≡ placed bytes read
placed-Yields bytes rest value result read e y =
    e ∙ ap (placed bytes) (with_rest-Yields value rest read y)

pub found_at : {A : Type 0} (spells : A → List ℕ → Type 0) (read : List ℕ → Field A)
    → IsFound spells read → (bytes : List ℕ) (start : ℕ) (result : Result (A × ℕ) FieldFault)
    → IsBytes bytes → start ≤ length bytes → result ≡ placed bytes (read (drop start bytes))
    → IfOk result (λ r. SpelledAt (spells r.0) bytes start r.1)
found_at spells read found bytes start (Ok r) fits within e =
    placed_found spells read found bytes start r fits within (sym e)
found_at spells read found bytes start (Err fault) fits within e = tt

-- what a function read that takes memory is spelled there, where it did not run out
pub PlacedGives-found : {X Y : Type 0} (view : X × ℕ → Y × ℕ) (spells : Y → List ℕ
    → Type 0) (read : List ℕ → Field Y) → IsFound spells read
    → (bytes : List ℕ) (start : ℕ) (result : Result (X × ℕ) ReadFault) → IsBytes bytes
    → start ≤ length bytes → PlacedGives view result (placed bytes (read (drop start bytes)))
    → IfOk result (λ x. SpelledAt (spells (view x).0) bytes start (view x).1)
PlacedGives-found view spells read found bytes start (Ok x) fits within e =
    placed_found spells read found bytes start (view x) fits within e
PlacedGives-found view spells read found bytes start (Err e) fits within g = tt

pub PlacedGives-only : {X Y : Type 0} (view : X × ℕ → Y × ℕ) (spells : Y → List ℕ
    → Type 0) (read : List ℕ → Field Y) → IsOnly Anything spells read
    → (bytes : List ℕ) (start : ℕ) (result : Result (X × ℕ) ReadFault) (a : Y) (end : ℕ)
    → PlacedGives view result (placed bytes (read (drop start bytes)))
    → SpelledAt (spells a) bytes start end → PlacedGives view result (Ok (a, end))
PlacedGives-only {X} {Y} view spells read only bytes start result a end g s =
    let P : Result (Y × ℕ) FieldFault → Type 0 = λ r. PlacedGives view result r in
    subst P (placed_only spells read only bytes start a end s) g
