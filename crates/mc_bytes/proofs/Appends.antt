-- Writing one value after another, as a loop does.
use Rattle.std.proofs.Common.{◌≡◌, ℕ, ◌+◌, ◌≤◌, ◌<◌, zero, suc, ◌++◌, take, List, [], ◌∷◌, length}
use Rattle.std.proofs.Common.{get_or, drop, ap, sym, ◌∙◌, add-one, arith}
use Rattle.std.proofs.Math.Seq.{drop-cons}
use Rattle.std.proofs.lemmas.List.{drop_all}
use Rattle.mc_bytes.specs.Format.{Format, Anything}
use Rattle.mc_bytes.specs.ManyBytes.{AllFit, all_append}
use Rattle.mc_bytes.specs.UntilBytes.{until_append}
use Rattle.mc_bytes.specs.NumberBytes.{number_spelling}
use Rattle.std.specs.Int.{w8}
use Rattle.mc_bytes.proofs.Kept.{kept_more, kept_by}

next_drop : {A : Type 0} (xs : List A) (i : ℕ) (d : A) → i < length xs → drop i xs ≡ get_or xs i d ∷
    drop (i + 1) xs
next_drop xs i d lt = rw add-one (drop-cons xs i d lt)

-- each value of a list fits
pub AllFit-at : {A : Type 0} (fits : A → Type 0) (xs : List A) (i : ℕ) (d : A) → i < length xs →
    AllFit fits xs → fits (get_or xs i d)
AllFit-at fits [] i d lt all = absurd (omega arith)
AllFit-at fits (x ∷ xs) zero d lt all = all.0
AllFit-at fits (x ∷ xs) (suc i) d lt all = AllFit-at fits xs i d (omega arith) all.1

-- what a loop keeps that writes values: what is written and what is left are all, and what stood
-- before is kept
abbrev pub IsWriting : {A : Type 0} → (A → List ℕ → List ℕ) → List A → List A → List ℕ → List ℕ →
    Type 0
IsWriting append left all start out = (all_append append left out ≡ all_append append all start) ×
    (take (length start) out ≡ start)

-- the next value is written
pub writing_next : {A : Type 0} (f : Format Anything A) (xs : List A) (i : ℕ) (d : A)
    (start out new : List ℕ) → i < length xs → new ≡ f.append (get_or xs i d) out →
    IsWriting f.append (drop i xs) xs start out → IsWriting f.append (drop (i + 1) xs) xs start new
unfolding all_append
writing_next {A} f xs i d start out new lt e h =
    let item = get_or xs i d in
    let kept = kept_by start out new (f.spelling item) (e ∙ f.appended item out) h.1 in (
      ap (all_append f.append (drop (i + 1) xs)) e ∙
          sym (ap (λ (ys : List A). all_append f.append ys out) (next_drop xs i d lt)) ∙ h.0,
      kept,
    )

-- all are written
pub writing_done : {A : Type 0} (f : Format Anything A) (xs : List A) (i : ℕ) (start out : List ℕ) →
    length xs ≤ i → IsWriting f.append (drop i xs) xs start out → out ≡ all_append f.append xs start
unfolding all_append
writing_done {A} f xs i start out le h =
    sym (ap (λ (ys : List A). all_append f.append ys out) (drop_all i xs le)) ∙ h.0

-- ---- values behind which an end follows

abbrev pub IsWritingUntil : {A : Type 0} → ℕ → (A → ℕ) → (ℕ → Format Anything A) → List A → List A →
    List ℕ → List ℕ → Type 0
IsWritingUntil end head_of body left all start out =
    (until_append end head_of (λ head. (body head).append) left out ≡
    until_append end head_of (λ head. (body head).append) all start) ×
    (take (length start) out ≡ start)

-- the next value is written behind its byte
pub until_writing_next : {A : Type 0} (end : ℕ) (head_of : A → ℕ) (body : ℕ → Format Anything A)
    (xs : List A) (i : ℕ) (d : A) (start out new : List ℕ) → i < length xs →
    new ≡ (body (head_of (get_or xs i d))).append (get_or xs i d) (out ++
    number_spelling w8 (head_of (get_or xs i d))) → IsWritingUntil end head_of body (drop i xs) xs
    start out → IsWritingUntil end head_of body (drop (i + 1) xs) xs start new
unfolding until_append
until_writing_next {A} end head_of body xs i d start out new lt e h =
    let item = get_or xs i d in
    let head = number_spelling w8 (head_of item) in
    let before = kept_more start out head h.1 in
    let kept = kept_by start (out ++ head) new ((body (head_of item)).spelling item) (e ∙
    (body (head_of item)).appended item (out ++ head)) before in (
      ap (until_append end head_of (λ head. (body head).append) (drop (i + 1) xs)) e ∙
          sym (ap (λ (ys : List A). until_append end head_of (λ head. (body head).append) ys out)
          (next_drop xs i d lt)) ∙ h.0,
      kept,
    )

-- all are written, and the end
pub until_writing_done : {A : Type 0} (end : ℕ) (head_of : A → ℕ) (body : ℕ → Format Anything A)
    (xs : List A) (i : ℕ) (start out new : List ℕ) → length xs ≤ i →
    new ≡ out ++ number_spelling w8 end → IsWritingUntil end head_of body (drop i xs) xs start out →
    new ≡ until_append end head_of (λ head. (body head).append) xs start
unfolding until_append
until_writing_done {A} end head_of body xs i start out new le e h =
    e ∙ sym (ap (λ (ys : List A). until_append end head_of (λ head. (body head).append) ys out)
    (drop_all i xs le)) ∙ h.0
