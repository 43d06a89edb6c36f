-- Laws of whole numbers and truth values.
use Rattle.std.specs.Prelude.{◌≡◌, ℕ, ◌+◌, ◌-◌, ◌<◌, ◌≤◌, Bool, true, false, List, length, drop}
use Rattle.std.specs.Prelude.{Result, Ok, Err, IfErr, IsOk, refl}
use Rattle.std.specs.Int.{Width, w8, byte_len, cast_signed}
use Rattle.std.proofs.Common.{sym, ap, ◌∙◌, arith, le-ltb, lt-ltb, inl, inr}
use Rattle.std.proofs.lemmas.Bool.{cases_lt}
use Rattle.std.proofs.lemmas.List.{length-drop}
use lib.IntN.{ℤ}
use Rattle.mc_bytes.specs.declared.fault.Kind.TheVariants.{Short}
use Rattle.mc_bytes.specs.declared.fault.FieldFault.{FieldFault}
use Rattle.mc_bytes.specs.declared.fault.Stop.{Stop}
use Rattle.mc_bytes.specs.Reading.{Field, IsBytes, Yields, stop_at, ◌>>=◌}
use Rattle.mc_bytes.specs.Format.{IsFound, IsOnly, IsBounded, Anything}
use Rattle.mc_bytes.specs.CombineBytes.{view_read}
use Rattle.mc_bytes.specs.CombineLaws.{bind_ok, ok_is, Found-is}
use Rattle.mc_bytes.specs.NumberLaws.{IsWide, number_found, number_only, number_bounded, wide_8}
use Rattle.mc_bytes.specs.NumberBytes.{number_read, number_spells}
use Rattle.mc_bytes.specs.Signed.{signed}
use Rattle.mc_bytes.specs.Placed.{placed, with_rest, fault_at}
use Rattle.mc_bytes.specs.PlacedLaws.{found_at, placed_only, placed-Yields}
use Rattle.mc_fields.specs.IntegerBytes.{signed_spells, signed_read, is_true, SpellsBool}
use Rattle.mc_fields.specs.IntegerBytes.{boolean_spelling, boolean_read, ReadsFixed}

-- ---- truth values: 00 is false and each other byte is true (a rule of this project); 00 and 01
-- are written

pub boolean_found : IsFound SpellsBool boolean_read
boolean_found bytes x fits e =
    let p = bind_ok (number_read w8 bytes) (λ (n : ℕ × List ℕ). Ok (is_true n.0, n.1)) x e in
    let f = number_found w8 wide_8 bytes p.0 fits p.1 in
    Found-is SpellsBool bytes (is_true p.0.0, p.0.1) x (ok_is Stop _ _ p.2) (record {
      front = f.front;
      parts = f.parts;
      spelled = record { code = p.0.0; spelled = f.spelled; seen = refl };
      rest_fits = f.rest_fits;
    })

pub boolean_only : (Rest : List ℕ → Type 0) → IsOnly Rest SpellsBool boolean_read
boolean_only Rest value front rest ends s =
    rw (number_only w8 wide_8 Rest s.code front rest ends s.spelled, s.seen) refl

pub boolean_spelled : (value : Bool) → SpellsBool value (boolean_spelling value)
boolean_spelled true = record { code = 1; spelled = (omega arith, refl); seen = refl }
boolean_spelled false = record { code = 0; spelled = (omega arith, refl); seen = refl }

pub boolean_bounded : IsBounded SpellsBool (λ value. 1)
boolean_bounded value bytes s = number_bounded w8 wide_8 s.code bytes s.spelled

-- ---- reading from an offset

-- the one fault of a reader is that fewer bytes are left
pub record IsFixed {A : Type 0} (len : ℕ) (read : List ℕ → Field A) : Type 0 where
  pub cut : (bytes : List ℕ) → length bytes < len → read bytes ≡ Err (stop_at Short bytes)
  pub whole : (bytes : List ℕ) → len ≤ length bytes → IsOk (read bytes)

pub number_fixed : (w : Width) → IsFixed (byte_len w) (number_read w)
unfolding number_read
number_fixed w = record {
  cut = λ bytes lt. rw (lt-ltb (length bytes) (byte_len w) lt) refl;
  whole = λ bytes le. rw (le-ltb (length bytes) (byte_len w) le) refl;
}

pub view_fixed : {A B : Type 0} (len : ℕ) (read : List ℕ → Field A) (make : A → B)
    → IsFixed len read → IsFixed len (view_read read make)
view_fixed {A} {B} len read make fixed = record {
  cut = λ bytes lt. rw (fixed.cut bytes lt) refl;
  whole = λ bytes le. kept (read bytes) (fixed.whole bytes le);
}
  where
    kept : (r : Field A) → IsOk r → IsOk {T = B × List ℕ} (r >>= λ x. Ok (make x.0, x.1))
    kept (Ok x) is = refl
    kept (Err stop) is = absurd cc

pub reads_fixed : {A : Type 0} (spells : A → List ℕ → Type 0) (read : List ℕ → Field A)
    → IsFound spells read → IsOnly Anything spells read → (len : ℕ) → IsFixed len read
    → (bytes : List ℕ) (start : ℕ) (result : Result (A × ℕ) FieldFault) → IsBytes bytes
    → start ≤ length bytes → result ≡ placed bytes (read (drop start bytes))
    → ReadsFixed spells len bytes start result
reads_fixed {A} spells read found only len fixed bytes start result fits within is = record {
  found = found_at spells read found bytes start result fits within is;
  only = λ a end s. is ∙ placed_only spells read only bytes start a end s;
  short = (there, here);
  fault = faults result is;
}
  where
    left : length (drop start bytes) ≡ length bytes - start
    left = length-drop start bytes

    here : length bytes < start + len → result ≡ Err (fault_at Short start)
    here lt =
        let few : length (drop start bytes) < len = omega (arith, left) in
        let place : length bytes - length (drop start bytes) ≡ start = omega (arith, left) in
        is ∙ ap (placed bytes) (fixed.cut (drop start bytes) few) ∙
        ap (λ (n : ℕ). Err (fault_at Short n)) place

    not_both : (r : Field A) (e : FieldFault) → IsOk r → placed bytes r ≡ Err e → ⊥
    not_both (Ok x) e is_ok h = cc
    not_both (Err stop) e is_ok h = cc

    failed : (e : FieldFault) → result ≡ Err e → length bytes < start + len
    failed e h =
        elim (cases_lt (length bytes) (start + len)) [
          | inl lt ↦ lt
          | inr le ↦ absurd (not_both (read (drop start bytes)) e (fixed.whole (drop start bytes)
              (omega (arith, left))) (sym is ∙ h))
        ]

    there : result ≡ Err (fault_at Short start) → length bytes < start + len
    there h = failed (fault_at Short start) h

    faults : (r : Result (A × ℕ) FieldFault) → r ≡ placed bytes (read (drop start bytes)) →
        IfErr r (λ fault. fault ≡ fault_at Short start)
    faults (Ok x) e = tt
    faults (Err d) e =
        let same : result ≡ Err d = is ∙ sym e in
        let short : result ≡ Err (fault_at Short start) = here (failed d same) in
        cc

-- ---- the readers of the code: what they took from the cursor at the offset, and what they made of
-- it

pub fixed_at : {A : Type 0} (spells : A → List ℕ → Type 0) (read : List ℕ → Field A)
    → IsFound spells read → IsOnly Anything spells read → (len : ℕ) → IsFixed len read
    → (bytes rest : List ℕ) (start : ℕ) (value : Result A Stop) (result : Result (A × ℕ) FieldFault)
    (from : List ℕ)
    → IsBytes bytes → start ≤ length bytes → result ≡ placed bytes (with_rest value rest)
    → Yields (λ a. (a, rest)) value (read from) → from ≡ drop start bytes
    → ReadsFixed spells len bytes start result
fixed_at spells read found only len fixed bytes rest start value result from fits within is yields
    there =
    reads_fixed spells read found only len fixed bytes start result fits within
    (placed-Yields bytes rest value result (read from) is yields ∙
    ap (λ t. placed bytes (read t)) there)

pub number_reads : (w : Width) → IsWide w
    → (bytes rest : List ℕ) (start : ℕ) (value : Result ℕ Stop) (result : Result (ℕ × ℕ) FieldFault)
    (from : List ℕ)
    → IsBytes bytes → start ≤ length bytes → result ≡ placed bytes (with_rest value rest)
    → Yields (λ n. (n, rest)) value (number_read w from) → from ≡ drop start bytes
    → ReadsFixed (number_spells w) (byte_len w) bytes start result
number_reads w wide =
    fixed_at (number_spells w) (number_read w) (number_found w wide) (number_only w wide Anything)
    (byte_len w) (number_fixed w)

pub signed_reads : (w : Width) (wide : IsWide w) (bytes rest : List ℕ) (start : ℕ)
    (value : Result ℤ Stop) (result : Result (ℤ × ℕ) FieldFault) (from : List ℕ)
    → IsBytes bytes → start ≤ length bytes → result ≡ placed bytes (with_rest value rest)
    → Yields (λ n. (n, rest)) value (signed_read w from) → from ≡ drop start bytes
    → ReadsFixed (signed_spells w) (byte_len w) bytes start result
signed_reads w wide =
    fixed_at (signed_spells w) (signed_read w) (signed {Rest = Anything} w wide).found
    (signed {Rest = Anything} w wide).only (byte_len w) (view_fixed (byte_len w) (number_read w)
    (cast_signed w) (number_fixed w))

pub boolean_reads : (bytes rest : List ℕ) (start : ℕ) (value : Result Bool Stop)
    (result : Result (Bool × ℕ) FieldFault) (from : List ℕ)
    → IsBytes bytes → start ≤ length bytes → result ≡ placed bytes (with_rest value rest)
    → Yields (λ n. (n, rest)) value (boolean_read from) → from ≡ drop start bytes
    → ReadsFixed SpellsBool 1 bytes start result
boolean_reads =
    fixed_at SpellsBool boolean_read boolean_found (boolean_only Anything) 1
    (view_fixed 1 (number_read w8) is_true (number_fixed w8))
