-- Laws of values until an end byte.
use Rattle.std.specs.Prelude.{◌≡◌, ◌≢◌, ℕ, zero, suc, ◌+◌, ◌<◌, ◌≤◌, ◌==◌, Bool, true, false, cond}
use Rattle.std.specs.Prelude.{List, [], ◌∷◌, ◌++◌, length, Option, Some, None, Ok, refl}
use Rattle.std.specs.Prelude.{if◌then◌else◌}
use Rattle.std.specs.Int.{w8}
use Rattle.std.proofs.Common.{ap, ◌∙◌, append_assoc, arith, eqb-true, eq-eqb, ne_eqb}
use Rattle.std.proofs.lemmas.Bool.{eqb-false}
use Rattle.std.proofs.lemmas.List.{length-append}
use Rattle.mc_bytes.specs.declared.fault.Stop.{Stop}
use Rattle.mc_bytes.specs.Reading.{Field, IsBytes}
use Rattle.mc_bytes.specs.Format.{Found, IsFound, IsOnly, IsAppended, IsBounded, Anything}
use Rattle.mc_bytes.specs.CombineLaws.{bind_ok, ok_is, Found-is, joined, joined_length}
use Rattle.mc_bytes.specs.OptionalBytes.{some_read}
use Rattle.mc_bytes.specs.NumberBytes.{number_read, number_spells, number_spelling}
use Rattle.mc_bytes.specs.NumberLaws.{number_found, number_only, number_bounded, wide_8}
use Rattle.mc_bytes.specs.Times.{SpelledUntil, until_at}
use Rattle.mc_bytes.specs.ManyBytes.{AllFit}
use Rattle.mc_bytes.specs.UntilBytes.{headed_read, Headed, headed_spells, IsHead, headed_fits}
use Rattle.mc_bytes.specs.UntilBytes.{until_spelling, until_append, until_most}

headed_is : {A : Type 0} (end : ℕ) (head_of : A → ℕ) (spells : ℕ → A → List ℕ
    → Type 0) (head : ℕ) (value : A) (front back : List ℕ) → head_of value ≡ head
    → number_spells w8 head front → head ≢ end → spells head value back
    → Headed end head_of spells value (front ++ back)
headed_is end head_of spells head value front back is head_spelled other spelled =
    record {
      front = front;
      back = back;
      parts = refl;
      head_spelled = rw is head_spelled;
      other = rw is other;
      spelled = rw is spelled;
    }

pub headed_found : {A : Type 0} (end : ℕ) (head_of : A → ℕ) (spells : ℕ → A → List ℕ
    → Type 0) (read : ℕ → List ℕ → Field A) → ((head : ℕ) → IsFound (spells head) (read head))
    → IsHead head_of spells → IsFound (headed_spells end head_of spells) (headed_read end read)
unfolding headed_read
headed_found {A} end head_of spells read found is_head bytes x fits e =
    let p = bind_ok (number_read w8 bytes) (λ (head : ℕ × List ℕ). if head.0 == end then
    Ok (None, head.1) else some_read (read head.0) head.1) x e in
    let f = number_found w8 wide_8 bytes p.0 fits p.1 in
    step p.0.0 p.0.1 f.front f.parts f.spelled f.rest_fits (p.0.0 == end) refl p.2
  where
    step : (head : ℕ) (left front : List ℕ) → bytes ≡ front ++ left → number_spells w8 head front →
        IsBytes left → (t : Bool) → (head == end) ≡ t →
        cond t (Ok (None, left)) (some_read (read head) left) ≡ Ok x →
        Found (headed_spells end head_of spells) bytes x
    step head left front parts spelled left_fits true t e =
        let same : front ≡ number_spelling w8 end = spelled.1 ∙
        ap (number_spelling w8) (eqb-true head end t) in
        Found-is (headed_spells end head_of spells) bytes (None, left) x (ok_is Stop _ _ e)
        (record { front = front; parts = parts; spelled = same; rest_fits = left_fits })
    step head left front parts spelled left_fits false t e =
        let q = bind_ok (read head left) (λ (y : A × List ℕ). Ok (Some y.0, y.1)) x e in
        let g = found head left q.0 left_fits q.1 in
        Found-is (headed_spells end head_of spells) bytes (Some q.0.0, q.0.1) x (ok_is Stop _ _ q.2)
        (record {
          front = front ++ g.front;
          parts = joined bytes front left g.front q.0.1 parts g.parts;
          spelled = headed_is end head_of spells head q.0.0 front g.front
              (is_head head q.0.0 g.front spelled.0 g.spelled) spelled (eqb-false head end t)
              g.spelled;
          rest_fits = g.rest_fits;
        })

pub headed_only : {A : Type 0} (end : ℕ) → end < 256 → (head_of : A → ℕ) (spells : ℕ → A → List ℕ
    → Type 0) (read : ℕ → List ℕ → Field A) → ((head : ℕ)
    → IsOnly Anything (spells head) (read head))
    → IsOnly Anything (headed_spells end head_of spells) (headed_read end read)
unfolding headed_read
headed_only end small head_of spells read only None front rest ends s =
    let same : (end == end) ≡ true = eq-eqb end end refl in
    rw (number_only w8 wide_8 Anything end front rest tt (small, s), same) refl
headed_only end small head_of spells read only (Some value) front rest ends s =
    let regrouped : front ++ rest ≡ s.front ++ (s.back ++ rest) =
    ap (λ (t : List ℕ). t ++ rest) s.parts ∙ append_assoc s.front s.back rest in
    let other : (head_of value == end) ≡ false = ne_eqb _ _ s.other in
    rw (
      regrouped,
      number_only w8 wide_8 Anything (head_of value) s.front (s.back ++ rest) tt
          s.head_spelled,
      other,
      only (head_of value) value s.back rest tt s.spelled,
    ) refl

-- each value and the end take a byte at least
headed_some : {A : Type 0} (end : ℕ) (head_of : A → ℕ) (spells : ℕ → A → List ℕ
    → Type 0) (value : Option A) (bytes : List ℕ) → headed_spells end head_of spells value bytes
    → 0 < length bytes
unfolding number_spelling
headed_some end head_of spells None bytes s =
    let head : length bytes ≡ 1 = ap length s in omega (arith, head)
headed_some end head_of spells (Some value) bytes s =
    let head : length s.front ≡ 1 = ap length s.head_spelled.1 in
    let long : length bytes ≡ length s.front + length s.back = ap length s.parts ∙
    length-append s.front s.back in
    omega (arith, head, long)

pub headed_shorter : {A : Type 0} (end : ℕ) (head_of : A → ℕ) (spells : ℕ → A → List ℕ
    → Type 0) (read : ℕ → List ℕ → Field A) → ((head : ℕ) → IsFound (spells head) (read head))
    → IsHead head_of spells → (bytes : List ℕ) (x : Option A × List ℕ) → IsBytes bytes
    → headed_read end read bytes ≡ Ok x → length x.1 < length bytes
headed_shorter end head_of spells read found is_head bytes x fits e =
    let f = headed_found end head_of spells read found is_head bytes x fits e in
    let some = headed_some end head_of spells x.0 f.front f.spelled in
    let long : length bytes ≡ length f.front + length x.1 = ap length f.parts ∙
    length-append f.front x.1 in
    omega (arith, some, long)

-- ---- many of them

-- there are no more values than bytes
until_few : {A : Type 0} (end : ℕ) (head_of : A → ℕ) (spells : ℕ → A → List ℕ
    → Type 0) (xs : List A) (bytes : List ℕ)
    → SpelledUntil (headed_spells end head_of spells) xs bytes → length xs ≤ length bytes
unfolding number_spelling
until_few end head_of spells [] bytes s = omega arith
until_few end head_of spells (x ∷ xs) bytes (first, others, parts, spelled, all) =
    let few = until_few end head_of spells xs others all in
    let head : length spelled.front ≡ 1 = ap length spelled.head_spelled.1 ∙
    wide_8.len (head_of x) in
    let long : length first ≡ length spelled.front + length spelled.back = ap length spelled.parts ∙
    length-append spelled.front spelled.back in
    let all_long : length bytes ≡ length first + length others = ap length parts ∙
    length-append first others in
    omega (arith, few, head, long, all_long)

pub until_enough : {A : Type 0} (end : ℕ) (head_of : A → ℕ) (spells : ℕ → A → List ℕ
    → Type 0) (xs : List A) (front rest : List ℕ)
    → SpelledUntil (headed_spells end head_of spells) xs front
    → length xs < suc (length (front ++ rest))
until_enough end head_of spells xs front rest s =
    let few = until_few end head_of spells xs front s in
    let long : length (front ++ rest) ≡ length front + length rest = length-append front rest in
    omega (arith, few, long)

pub until_only : {A : Type 0} (spells : Option A → List ℕ → Type 0) (step : List ℕ
    → Field (Option A)) → IsOnly Anything spells step
    → (fuel : ℕ) (xs : List A) (front rest : List ℕ) → length xs < fuel
    → SpelledUntil spells xs front → until_at step fuel (front ++ rest) ≡ Ok (xs, rest)
unfolding until_at
until_only spells step only zero xs front rest enough s = absurd (omega arith)
until_only spells step only (suc fuel) [] front rest enough s = rw (only None front rest tt s) refl
until_only spells step only (suc fuel) (x ∷ xs) front rest enough (
  first,
  others,
  parts,
  spelled,
  all,
) =
    let regrouped : front ++ rest ≡ first ++ (others ++ rest) = ap (λ (t : List ℕ). t ++ rest) parts
    ∙ append_assoc first others rest in
    rw (
      regrouped,
      only (Some x) first (others ++ rest) tt spelled,
      until_only spells step only fuel
          xs others rest (omega arith) all,
    ) refl

pub until_fit : {A : Type 0} (end : ℕ) (head_of : A → ℕ) (spells : ℕ → A → List ℕ
    → Type 0) (fits : ℕ → A → Type 0) → ((head : ℕ) (a : A) (bytes : List ℕ) → spells head a bytes
    → fits head a) → (xs : List A) (bytes : List ℕ)
    → SpelledUntil (headed_spells end head_of spells) xs bytes
    → AllFit (headed_fits end head_of fits) xs
until_fit end head_of spells fits fit [] bytes s = tt
until_fit end head_of spells fits fit (x ∷ xs) bytes (first, others, parts, spelled, all) = (
  (spelled.head_spelled.0, spelled.other, fit (head_of x) x spelled.back spelled.spelled),
  until_fit end head_of spells fits fit xs others all,
)

pub until_spelled : {A : Type 0} (end : ℕ) (head_of : A → ℕ) (spells : ℕ → A → List ℕ
    → Type 0) (fits : ℕ → A → Type 0) (spelling : ℕ → A → List ℕ) → ((head : ℕ) (a : A)
    → fits head a → spells head a (spelling head a)) → (xs : List A)
    → AllFit (headed_fits end head_of fits) xs
    → SpelledUntil (headed_spells end head_of spells) xs (until_spelling end head_of spelling xs)
until_spelled end head_of spells fits spelling spelled [] fit = refl
until_spelled end head_of spells fits spelling spelled (x ∷ xs) fit =
    let head : Headed end head_of spells x (number_spelling w8 (head_of x) ++
    spelling (head_of x) x) = record {
      front = number_spelling w8 (head_of x);
      back = spelling (head_of x) x;
      parts = refl;
      head_spelled = (fit.0.0, refl);
      other = fit.0.1;
      spelled = spelled (head_of x) x fit.0.2;
    } in (
      number_spelling w8 (head_of x) ++ spelling (head_of x) x,
      until_spelling end head_of spelling
          xs,
      refl,
      head,
      until_spelled end head_of spells fits spelling spelled xs fit.1,
    )

pub until_appended : {A : Type 0} (end : ℕ) (head_of : A → ℕ) (spelling : ℕ → A
    → List ℕ) (append : ℕ → A → List ℕ → List ℕ) → ((head : ℕ)
    → IsAppended (spelling head) (append head))
    → IsAppended (until_spelling end head_of spelling) (until_append end head_of append)
unfolding until_append
until_appended end head_of spelling append appended [] out = refl
until_appended end head_of spelling append appended (x ∷ xs) out =
    let head = number_spelling w8 (head_of x) in
    let back = spelling (head_of x) x in
    let others = until_spelling end head_of spelling xs in
    until_appended end head_of spelling append appended xs (append (head_of x) x (out ++ head))
    ∙ ap (λ (t : List ℕ). t ++ others) (appended (head_of x) x (out ++ head) ∙
    append_assoc out head back)
    ∙ append_assoc out (head ++ back) others

pub until_bounded : {A : Type 0} (end : ℕ) (head_of : A → ℕ) (spells : ℕ → A → List ℕ
    → Type 0) (most : ℕ → A → ℕ) → ((head : ℕ) → IsBounded (spells head) (most head))
    → IsBounded (SpelledUntil (headed_spells end head_of spells)) (until_most head_of most)
unfolding number_spelling
until_bounded end head_of spells most bounded [] bytes s =
    let len : length bytes ≡ 1 = ap length s ∙ wide_8.len end in
    omega (arith, len)
until_bounded end head_of spells most bounded (x ∷ xs) bytes (first, others, parts, spelled, all) =
    joined_length bytes first others (1 + most (head_of x) x) (until_most head_of most xs) parts
    (joined_length first spelled.front spelled.back 1 (most (head_of x) x) spelled.parts
    (number_bounded w8 wide_8 (head_of x) spelled.front spelled.head_spelled)
    (bounded (head_of x) x spelled.back spelled.spelled))
    (until_bounded end head_of spells most bounded xs others all)
