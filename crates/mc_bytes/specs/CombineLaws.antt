-- Laws of formats made of formats: what holds of the parts holds of the whole.
use Rattle.std.specs.Prelude.{◌≡◌, ℕ, ◌+◌, ◌≤◌, Bool, true, false, List, [], ◌++◌, length, Result}
use Rattle.std.specs.Prelude.{Ok, Err, refl, if◌then◌else◌}
use Rattle.std.proofs.Common.{sym, subst, ap, ◌∙◌, append_assoc, arith}
use Rattle.std.proofs.lemmas.List.{append-nil, length-append}
use Rattle.mc_bytes.specs.declared.fault.Kind.{Kind}
use Rattle.mc_bytes.specs.declared.fault.Stop.{Stop}
use Rattle.mc_bytes.specs.Reading.{Field, IsBytes, ◌>>=◌, stop_at}
use Rattle.mc_bytes.specs.Format.{Format, Found, IsFound, IsOnly, IsAppended, IsBounded, Anything}
use Rattle.mc_bytes.specs.Format.{Nothing}
use Rattle.mc_bytes.specs.CombineBytes.{Sequence, sequence_read, sequence_append, tested_read}
use Rattle.mc_bytes.specs.CombineBytes.{tested_spells, view_spells, view_read, none_spells}
use Rattle.mc_bytes.specs.CombineBytes.{none_read}

-- the value of a step that did not fail, and what the next step made of it
pub bind_ok : {A B E : Type 0} (r : Result A E) (f : A → Result B E) (y : B) → (r >>= f) ≡ Ok y
    → (x : A) × (r ≡ Ok x) × (f x ≡ Ok y)
bind_ok (Ok x) f y e = (x, refl, e)
bind_ok (Err d) f y e = absurd cc

-- Ok, where its error's type is not plain
abbrev pub okay : {A : Type 0} (E : Type 0) → A → Result A E
okay E x = Ok x

-- two answers that are Ok and equal have equal values
pub ok_is : {A : Type 0} (E : Type 0) (x y : A) → okay E x ≡ okay E y → x ≡ y
ok_is E x y e = cc

-- a test whose one answer is a fault did not fail
pub passed : {A E : Type 0} (t : Bool) (fault : E) (r : Result A E) (x : A)
    → (if t then Err fault else r) ≡ Ok x → (t ≡ false) × (r ≡ Ok x)
passed true fault r x e = absurd cc
passed false fault r x e = (refl, e)

-- a value that was found is found under each name of it
pub Found-is : {A : Type 0} (spells : A → List ℕ → Type 0) (bytes : List ℕ) (x y : A × List ℕ)
    → x ≡ y → Found spells bytes x → Found spells bytes y
Found-is {A} spells bytes x y e found =
    let P : A × List ℕ → Type 0 = λ z. Found spells bytes z in subst P e found

-- two fronts, one behind the other, are one front
pub joined : (bytes front middle back rest : List ℕ) → bytes ≡ front ++ middle
    → middle ≡ back ++ rest → bytes ≡ (front ++ back) ++ rest
joined bytes front middle back rest first second =
    first ∙ ap (λ (t : List ℕ). front ++ t) second ∙ sym (append_assoc front back rest)

-- ---- one after another; how the second is spelled may depend on the first value

-- two spellings, one behind the other
pub Sequence-joined : {A B : Type 0} (first : A → List ℕ → Type 0) (second : A → B → List ℕ
    → Type 0) (a : A) (b : B) (front back : List ℕ) → first a front → second a b back
    → Sequence first second (a, b) (front ++ back)
Sequence-joined first second a b front back s t =
    record { front = front; back = back; parts = refl; first_spelled = s; second_spelled = t }

pub sequence_found : {A B : Type 0} (fs : A → List ℕ → Type 0) (fr : List ℕ → Field A) (gs : A → B
    → List ℕ → Type 0) (gr : A → List ℕ → Field B) → IsFound fs fr → ((a : A)
    → IsFound (gs a) (gr a)) → IsFound (Sequence fs gs) (sequence_read fr gr)
sequence_found {A} {B} fs fr gs gr first second bytes x fits e =
    let p = bind_ok (fr bytes) (λ (a : A × List ℕ). gr a.0 a.1 >>= λ (b : B × List ℕ).
    Ok ((a.0, b.0), b.1)) x e in
    let q = bind_ok (gr p.0.0 p.0.1) (λ (b : B × List ℕ). Ok ((p.0.0, b.0), b.1)) x p.2 in
    let f = first bytes p.0 fits p.1 in
    let g = second p.0.0 p.0.1 q.0 f.rest_fits q.1 in
    Found-is (Sequence fs gs) bytes ((p.0.0, q.0.0), q.0.1) x (ok_is Stop _ _ q.2) (record {
      front = f.front ++ g.front;
      parts = joined bytes f.front p.0.1 g.front q.0.1 f.parts g.parts;
      spelled = Sequence-joined fs gs p.0.0 q.0.0 f.front g.front f.spelled g.spelled;
      rest_fits = g.rest_fits;
    })

pub sequence_only : {A B : Type 0} (Rest : List ℕ → Type 0) (fs : A → List ℕ → Type 0) (fr : List ℕ
    → Field A) (gs : A → B → List ℕ → Type 0) (gr : A → List ℕ → Field B) → IsOnly Anything fs fr
    → ((a : A) → IsOnly Rest (gs a) (gr a)) → IsOnly Rest (Sequence fs gs) (sequence_read fr gr)
sequence_only {A} {B} Rest fs fr gs gr first second v bytes rest ends s =
    let regrouped : bytes ++ rest ≡ s.front ++ (s.back ++ rest) =
    ap (λ (t : List ℕ). t ++ rest) s.parts ∙ append_assoc s.front s.back rest in
    rw (
      regrouped,
      first v.0 s.front (s.back ++ rest) tt s.first_spelled,
      second v.0 v.1 s.back rest ends s.second_spelled,
    ) refl

pub sequence_fit : {A B : Type 0} (fs : A → List ℕ → Type 0) (ff : A → Type 0) (gs : A → B → List ℕ
    → Type 0) (gf : A → B → Type 0) → ((a : A) (bytes : List ℕ) → fs a bytes → ff a)
    → ((a : A) (b : B) (bytes : List ℕ) → gs a b bytes → gf a b) → (v : A × B) (bytes : List ℕ)
    → Sequence fs gs v bytes → ff v.0 × gf v.0 v.1
sequence_fit fs ff gs gf first second v bytes s =
    (first v.0 s.front s.first_spelled, second v.0 v.1 s.back s.second_spelled)

pub sequence_spelled : {A B : Type 0} (fs : A → List ℕ → Type 0) (ff : A → Type 0) (fw : A
    → List ℕ) (gs : A → B → List ℕ → Type 0) (gf : A → B → Type 0) (gw : A → B → List ℕ) → ((a : A)
    → ff a → fs a (fw a)) → ((a : A) (b : B) → gf a b → gs a b (gw a b)) → (v : A × B)
    → ff v.0 × gf v.0 v.1 → Sequence fs gs v (fw v.0 ++ gw v.0 v.1)
sequence_spelled fs ff fw gs gf gw first second v fits =
    record {
      front = fw v.0;
      back = gw v.0 v.1;
      parts = refl;
      first_spelled = first v.0 fits.0;
      second_spelled = second v.0 v.1 fits.1;
    }

pub sequence_appended : {A B : Type 0} (fw : A → List ℕ) (fa : A → List ℕ → List ℕ) (gw : A → B
    → List ℕ) (ga : A → B → List ℕ → List ℕ) → IsAppended fw fa → ((a : A)
    → IsAppended (gw a) (ga a)) → (v : A × B) (out : List ℕ)
    → sequence_append fa ga v out ≡ out ++ (fw v.0 ++ gw v.0 v.1)
sequence_appended fw fa gw ga first second v out =
    second v.0 v.1 (fa v.0 out) ∙ ap (λ (t : List ℕ). t ++ gw v.0 v.1) (first v.0 out) ∙
    append_assoc out (fw v.0) (gw v.0 v.1)

-- two lists, one behind the other, are as long as both
pub joined_length : (bytes front back : List ℕ) (a b : ℕ) → bytes ≡ front ++ back
    → length front ≤ a → length back ≤ b → length bytes ≤ a + b
joined_length bytes front back a b parts first second =
    let all : length bytes ≡ length front + length back = ap length parts ∙
    length-append front back in
    omega (arith, all, first, second)

pub sequence_bounded : {A B : Type 0} (fs : A → List ℕ → Type 0) (fm : A → ℕ) (gs : A → B → List ℕ
    → Type 0) (gm : A → B → ℕ) → IsBounded fs fm → ((a : A) → IsBounded (gs a) (gm a))
    → (v : A × B) (bytes : List ℕ) → Sequence fs gs v bytes → length bytes ≤ fm v.0 + gm v.0 v.1
sequence_bounded fs fm gs gm first second v bytes s =
    joined_length bytes s.front s.back (fm v.0) (gm v.0 v.1) s.parts
    (first v.0 s.front s.first_spelled) (second v.0 v.1 s.back s.second_spelled)

-- ---- a value that passes a test, or else a fault at its place

pub checked_ok : {A E : Type 0} (b : Bool) (x y : A) (d : E) → (if b then Ok x else Err d) ≡ Ok y
    → (b ≡ true) × (x ≡ y)
checked_ok {A} {E} true x y d e = (refl, ok_is E x y e)
checked_ok false x y d e = absurd cc

pub tested_found : {A : Type 0} (spells : A → List ℕ → Type 0) (read : List ℕ → Field A) (test : A
    → Bool) (kind : Kind) → IsFound spells read
    → IsFound (tested_spells spells test) (tested_read read test kind)
tested_found {A} spells read test kind found bytes x fits e =
    let p = bind_ok (read bytes) (λ (y : A × List ℕ). if test y.0 then Ok y else
    Err (stop_at kind bytes)) x e in
    let q = checked_ok (test p.0.0) p.0 x (stop_at kind bytes) p.2 in
    let f = found bytes p.0 fits p.1 in
    Found-is (tested_spells spells test) bytes p.0 x q.1 (record {
      front = f.front;
      parts = f.parts;
      spelled = (f.spelled, q.0);
      rest_fits = f.rest_fits;
    })

pub tested_only : {A : Type 0} (Rest : List ℕ → Type 0) (spells : A → List ℕ
    → Type 0) (read : List ℕ → Field A) (test : A → Bool) (kind : Kind) → IsOnly Rest spells read
    → IsOnly Rest (tested_spells spells test) (tested_read read test kind)
tested_only {A} Rest spells read test kind only a front rest ends s =
    rw (only a front rest ends s.0, s.1) refl

-- ---- bytes of one value, seen as another

-- make and back undo one another, where the value that is seen fits
pub record IsView {A B : Type 0} (fits : A → Type 0) (Fits : B → Type 0) (make : A → B)
    (back : B → A) : Type 0 where
  pub made : (a : A) → fits a → Fits (make a)
  pub again : (a : A) → fits a → back (make a) ≡ a
  pub same : (b : B) → Fits b → make (back b) ≡ b

pub view_found : {A B : Type 0} (spells : A → List ℕ → Type 0) (read : List ℕ → Field A) (fits : A
    → Type 0) (Fits : B → Type 0) (make : A → B) (back : B → A) → IsView fits Fits make back
    → ((a : A) (bytes : List ℕ) → spells a bytes → fits a) → IsFound spells read
    → IsFound (view_spells spells Fits back) (view_read read make)
view_found {A} {B} spells read fits Fits make back view fit found bytes x are_bytes e =
    let p = bind_ok (read bytes) (λ (y : A × List ℕ). Ok (make y.0, y.1)) x e in
    let f = found bytes p.0 are_bytes p.1 in
    let fitting = fit p.0.0 f.front f.spelled in
    let P : A → Type 0 = λ a. spells a f.front in
    Found-is (view_spells spells Fits back) bytes (make p.0.0, p.0.1) x (ok_is Stop _ _ p.2)
    (record {
      front = f.front;
      parts = f.parts;
      spelled = (view.made p.0.0 fitting, subst P (sym (view.again p.0.0 fitting)) f.spelled);
      rest_fits = f.rest_fits;
    })

pub view_only : {A B : Type 0} (Rest : List ℕ → Type 0) (spells : A → List ℕ
    → Type 0) (read : List ℕ → Field A) (fits : A → Type 0) (Fits : B → Type 0) (make : A
    → B) (back : B → A) → IsView fits Fits make back → IsOnly Rest spells read
    → IsOnly Rest (view_spells spells Fits back) (view_read read make)
view_only {A} {B} Rest spells read fits Fits make back view only b front rest ends s =
    rw (only (back b) front rest ends s.1, view.same b s.0) refl

-- ---- no field at all

pub none_found : IsFound none_spells none_read
none_found bytes x fits e =
    Found-is none_spells bytes (tt, bytes) x (ok_is Stop _ _ e) (record {
      front = [];
      parts = refl;
      spelled = refl;
      rest_fits = fits;
    })

pub none_only : (Rest : List ℕ → Type 0) → IsOnly Rest none_spells none_read
none_only Rest value front rest ends s = rw s refl

pub none_appended : (value : Unit {0}) (out : List ℕ) → out ≡ out ++ []
none_appended value out = sym (append-nil out)

pub none_bounded : IsBounded none_spells (λ value. 0)
none_bounded value bytes s = rw s (omega arith)

-- ---- all of some bytes

-- what is read to the end is spelled by all of the bytes
pub spelled_whole : {A : Type 0} (f : Format Nothing A) (bytes : List ℕ) (a : A) → IsBytes bytes
    → f.read bytes ≡ Ok (a, []) → f.spells a bytes
spelled_whole f bytes a fits e =
    let found = f.found bytes (a, []) fits e in
    let all : bytes ≡ found.front = found.parts ∙ append-nil found.front in
    subst (f.spells a) (sym all) found.spelled

-- what all of the bytes spell is read to the end
pub read_whole : {A : Type 0} (f : Format Nothing A) (bytes : List ℕ) (a : A) → f.spells a bytes
    → f.read bytes ≡ Ok (a, [])
read_whole f bytes a s =
    let all : bytes ++ [] ≡ bytes = append-nil bytes in
    sym (ap f.read all) ∙ f.only a bytes [] refl s
