-- Which fault a VarInt has: its bytes end too early, or none of them is the last.
use Rattle.std.proofs.Common.{◌≡◌, ℕ, zero, suc, ◌+◌, ◌-◌, ◌*◌, ◌%◌, ◌≤◌, ◌⊎◌, inl, inr, Bool}
use Rattle.std.proofs.Common.{true, false, cond, nat_lt, List, [], ◌∷◌, length, drop}
use Rattle.std.proofs.Common.{Result, Ok, Err, refl, sym, ap, ◌∙◌, arith, le-ltb, ltb-false}
use Rattle.std.proofs.lemmas.Bool.Decides.{nat_tests}
use Rattle.std.specs.Prelude.{◌↔◌, IsErrOf, IfErr}
use Rattle.std.proofs.lemmas.List.{length-drop}
use lib.IntN.{ℤ}
use Rattle.mc_bytes.specs.declared.fault.Kind.{Kind}
use Rattle.mc_bytes.specs.declared.fault.Kind.TheVariants.{Short, LongVarInt}
use Rattle.mc_bytes.specs.declared.fault.FieldFault.{FieldFault}
use Rattle.mc_bytes.specs.Reading.{◌>>=◌}
use Rattle.mc_bytes.specs.Placed.{placed, fault_at}
use Rattle.mc_fields.specs.Varint.{GoesOn, IsCut, groups_read, varint_read}

GoesOn-cons : (count b : ℕ) (bytes : List ℕ) → 128 ≤ b → GoesOn count bytes →
    GoesOn (suc count) (b ∷ bytes)
GoesOn-cons count b bytes marked on = grind (arith, nat_tests)

GoesOn-tail : (count b : ℕ) (bytes : List ℕ) → GoesOn (suc count) (b ∷ bytes) → GoesOn count bytes
GoesOn-tail count b bytes on = record {
  there = omega (arith, on.there);
  marked = λ k lt. on.marked (suc k) (omega arith);
}

pub groups-long : (room : ℕ) (bytes : List ℕ) → GoesOn room bytes → groups_read room bytes ≡
    Err LongVarInt
unfolding groups_read
groups-long zero bytes on = refl
groups-long (suc room) [] on = absurd (omega (arith, on.there))
groups-long (suc room) (b ∷ bytes) on =
    rw (
      le-ltb b 128 (on.marked 0 (omega arith)),
      groups-long room bytes (GoesOn-tail room b bytes on),
    ) refl

pub groups-cut : (room : ℕ) (bytes : List ℕ) → IsCut room bytes → groups_read room bytes ≡ Err Short
unfolding groups_read
groups-cut zero bytes cut = absurd (omega (arith, cut.0))
groups-cut (suc room) [] cut = refl
groups-cut (suc room) (b ∷ bytes) cut =
    rw (
      le-ltb b 128 (cut.1.marked 0 (omega arith)),
      groups-cut room bytes (
        omega (arith, cut.0),
        GoesOn-tail (length bytes) b bytes cut.1,
      ),
    ) refl

-- what a fault says of the bytes
abbrev pub Explains : ℕ → List ℕ → Kind → Type 0
Explains room bytes kind = ((kind ≡ LongVarInt) × GoesOn room bytes) ⊎
    ((kind ≡ Short) × IsCut room bytes)

pub groups_explained : (room : ℕ) (bytes : List ℕ) (kind : Kind) → groups_read room bytes ≡
    Err kind → Explains room bytes kind
unfolding groups_read
groups_explained zero bytes kind e =
    inl (cc, record { there = omega arith; marked = λ k lt. absurd (omega arith) })
groups_explained (suc room) [] kind e =
    inr (cc, (omega arith, record { there = omega arith; marked = λ k lt. absurd (omega arith) }))
groups_explained (suc room) (b ∷ bytes) kind e =
    step (nat_lt b 128) refl e (λ k. groups_explained room bytes k)
  where
    more : (read : Result (ℕ × List ℕ) Kind) →
        ◌>>=◌ {B = ℕ × List ℕ} read (λ high. Ok (b % 128 + 128 * high.0, high.1)) ≡ Err kind →
        read ≡ Err kind
    more (Ok x) e = absurd cc
    more (Err k) e = cc

    step : (t : Bool) → nat_lt b 128 ≡ t → cond {A = Result (ℕ × List ℕ) Kind} t (Ok (b, bytes))
        (◌>>=◌ {B = ℕ × List ℕ} (groups_read room bytes) (λ high. Ok (
          b % 128 + 128 * high.0,
          high.1,
        ))) ≡ Err kind → ((k : Kind) → groups_read room bytes ≡ Err k → Explains room bytes k)
        → Explains (suc room) (b ∷ bytes) kind
    step true t e rest = absurd cc
    step false t e rest =
        let marked : 128 ≤ b = ltb-false _ _ t in
        elim (rest kind (more (groups_read room bytes) e)) [
          | inl long ↦ inl (long.0, GoesOn-cons room b bytes marked long.1)
          | inr short ↦ inr (
            short.0,
            (
              omega (arith, short.1.0),
              GoesOn-cons (length bytes) b bytes
                  marked short.1.1,
            ),
          )
        ]

-- ---- faults at an offset

place : (bytes : List ℕ) (start : ℕ) → start ≤ length bytes →
    length bytes - length (drop start bytes) ≡ start
place bytes start within = omega (arith, length-drop start bytes)

-- a fault of the groups is a fault of the reader, at the offset
failed_at : (room : ℕ) (bytes : List ℕ) (start : ℕ) (kind : Kind) → start ≤ length bytes →
    groups_read room (drop start bytes) ≡ Err kind →
    placed bytes (varint_read room (drop start bytes)) ≡ Err (fault_at kind start)
failed_at room bytes start kind within e = rw (e, place bytes start within) refl

-- a fault of the reader is one of the groups
fault_of : (room : ℕ) (bytes : List ℕ) (start : ℕ) (fault : FieldFault) → start ≤ length bytes →
    placed bytes (varint_read room (drop start bytes)) ≡ Err fault → (kind : Kind) ×
    (groups_read room (drop start bytes) ≡ Err kind) × (fault ≡ fault_at kind start)
fault_of room bytes start fault within e = grind (arith, nat_tests, place)

pub long_at : (room : ℕ) (bytes : List ℕ) (start : ℕ) (result : Result (ℤ × ℕ) FieldFault) →
    start ≤ length bytes → result ≡ placed bytes (varint_read room (drop start bytes)) →
    IsErrOf result (fault_at LongVarInt start) ↔ GoesOn room (drop start bytes)
long_at room bytes start result within is = (
  there,
  λ on. is ∙ failed_at room bytes start LongVarInt within
      (groups-long room (drop start bytes) on),
)
  where
    there : IsErrOf result (fault_at LongVarInt start) → GoesOn room (drop start bytes)
    there h =
        let f = fault_of room bytes start (fault_at LongVarInt start) within (sym is ∙ h) in
        let kind : f.0 ≡ LongVarInt = sym (ap (λ (x : FieldFault). x.kind) f.2) in
        elim (groups_explained room (drop start bytes) f.0 f.1) [
          | inl long ↦ long.1
          | inr short ↦
              absurd cc
        ]

pub short_at : (room : ℕ) (bytes : List ℕ) (start : ℕ) (result : Result (ℤ × ℕ) FieldFault) →
    start ≤ length bytes → result ≡ placed bytes (varint_read room (drop start bytes)) →
    IsErrOf result (fault_at Short start) ↔ IsCut room (drop start bytes)
short_at room bytes start result within is = (
  there,
  λ cut. is ∙ failed_at room bytes start Short within (groups-cut room (drop start bytes)
      cut),
)
  where
    there : IsErrOf result (fault_at Short start) → IsCut room (drop start bytes)
    there h =
        let f = fault_of room bytes start (fault_at Short start) within (sym is ∙ h) in
        let kind : f.0 ≡ Short = sym (ap (λ (x : FieldFault). x.kind) f.2) in
        elim (groups_explained room (drop start bytes) f.0 f.1) [
          | inl long ↦ absurd cc
          | inr short ↦
              short.1
        ]

pub faults_at : (room : ℕ) (bytes : List ℕ) (start : ℕ) (result : Result (ℤ × ℕ) FieldFault) →
    start ≤ length bytes → result ≡ placed bytes (varint_read room (drop start bytes)) →
    IfErr result (λ fault. (fault ≡ fault_at LongVarInt start) ⊎ (fault ≡ fault_at Short start))
faults_at room bytes start (Ok x) within is = tt
faults_at room bytes start (Err fault) within is =
    let f = fault_of room bytes start fault within (sym is) in
    elim (groups_explained room (drop start bytes) f.0 f.1) [
      | inl long ↦ inl (f.2 ∙ ap (λ (k : Kind). fault_at k start) long.0)
      | inr short ↦ inr (f.2 ∙ ap (λ (k : Kind). fault_at k start) short.0)
    ]
