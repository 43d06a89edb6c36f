-- A text with too many bytes comes to what its first ones come to, up to one past the most, by any
-- fold over its lines that stops at the first line that goes past the most bytes.
use Rattle.std.proofs.Common.{◌≡◌, ℕ, suc, ◌+◌, ◌<◌, ◌≤◌, true, false, cond, List, [], ◌∷◌}
use Rattle.std.proofs.Common.{◌++◌, length, refl, ap}
use Rattle.std.proofs.Common.{arith}
use Rattle.std.specs.List.{onto_first}
use Rattle.std.proofs.lemmas.List.{length-append}
use Rattle.std.proofs.lemmas.Bool.Decides.{nat_tests}
use Rattle.mc_text.specs.Lines.{lines_of, is_line_end, text_max, goes_past, size_of}

-- ---- the lines of a text and those of its first bytes

-- some lines are alike, and the next one of each goes on behind the first `len` bytes
pub record Branches (len : ℕ) (long short : List (List ℕ)) : Type 0 where
  pub done : List (List ℕ)
  pub line : List ℕ
  pub rest : List (List ℕ)
  pub own : List ℕ
  pub own_rest : List (List ℕ)
  pub long_is : long ≡ done ++ line ∷ rest
  pub short_is : short ≡ done ++ own ∷ own_rest
  pub before : size_of done < len
  pub past : len ≤ size_of done + (length line + 1)
  pub own_past : len ≤ size_of done + (length own + 1)

-- a line end before both
ended : (len : ℕ) (long short : List (List ℕ)) → Branches len long short →
    Branches (suc len) ([] ∷ long) ([] ∷ short)
ended len long short r =
    let before = r.before in
    let past = r.past in
    let own_past = r.own_past in
    record {
      done = [] ∷ r.done;
      line = r.line;
      rest = r.rest;
      own = r.own;
      own_rest = r.own_rest;
      long_is = ap (λ (t : List (List ℕ)). [] ∷ t) r.long_is;
      short_is = ap (λ (t : List (List ℕ)). [] ∷ t) r.short_is;
      before = omega (arith, before);
      past = omega (arith, past);
      own_past = omega (arith, own_past);
    }

-- another byte before both
longer : (len b : ℕ) (done : List (List ℕ)) (line own : List ℕ) (rest own_rest : List (List ℕ)) →
    size_of done < len → len ≤ size_of done + (length line + 1) →
    len ≤ size_of done + (length own + 1) →
    Branches (suc len) (onto_first b (done ++ line ∷ rest)) (onto_first b (done ++ own ∷ own_rest))
longer len b [] line own rest own_rest before past own_past = record {
  done = [];
  line = b ∷ line;
  rest = rest;
  own = b ∷ own;
  own_rest = own_rest;
  long_is = refl;
  short_is = refl;
  before = omega (arith, before);
  past = omega (arith, past);
  own_past = omega (arith, own_past);
}
longer len b (first ∷ done) line own rest own_rest before past own_past = record {
  done = (b ∷ first) ∷ done;
  line = line;
  rest = rest;
  own = own;
  own_rest = own_rest;
  long_is = refl;
  short_is = refl;
  before = omega (arith, before);
  past = omega (arith, past);
  own_past = omega (arith, own_past);
}

behind : (len b : ℕ) (long short : List (List ℕ)) → Branches len long short →
    Branches (suc len) (onto_first b long) (onto_first b short)
behind len b long short r = rw (r.long_is, r.short_is)
    (longer len b r.done r.line r.own r.rest r.own_rest r.before r.past r.own_past)

-- the one byte that is left
one : (b : ℕ) (more : List (List ℕ)) → Branches 1 (onto_first b more) ((b ∷ []) ∷ [])
one b [] = record {
  done = [];
  line = b ∷ [];
  rest = [];
  own = b ∷ [];
  own_rest = [];
  long_is = refl;
  short_is = refl;
  before = omega arith;
  past = omega arith;
  own_past = omega arith;
}
one b (part ∷ parts) = record {
  done = [];
  line = b ∷ part;
  rest = parts;
  own = b ∷ [];
  own_rest = [];
  long_is = refl;
  short_is = refl;
  before = omega arith;
  past = omega arith;
  own_past = omega arith;
}

branch : (b : ℕ) (text more : List ℕ) →
    Branches (suc (length text)) (lines_of (b ∷ (text ++ more))) (lines_of (b ∷ text))
branch b [] more = elim (is_line_end b) as
    (λ t. Branches 1 (cond t ([] ∷ lines_of more) (onto_first b (lines_of more)))
    (cond t ([] ∷ lines_of []) (onto_first b (lines_of [])))) [
      | true ↦ record {
        done = [];
        line = [];
        rest = lines_of more;
        own = [];
        own_rest = [] ∷ [];
        long_is = refl;
        short_is = refl;
        before = omega arith;
        past = omega arith;
        own_past = omega arith;
      }
      | false ↦ one b (lines_of more)
    ]
branch b (c ∷ text) more =
    let r = branch c text more in
    elim (is_line_end b) as
    (λ t. Branches (suc (suc (length text)))
    (cond t ([] ∷ lines_of (c ∷ (text ++ more))) (onto_first b (lines_of (c ∷ (text ++ more)))))
    (cond t ([] ∷ lines_of (c ∷ text)) (onto_first b (lines_of (c ∷ text))))) [
      | true ↦ ended (suc (length text)) _ _ r
      | false ↦ behind (suc (length text)) b _ _ r
    ]

pub branched : (text more : List ℕ) (len : ℕ) → length text ≡ len + 1 →
    Branches (len + 1) (lines_of (text ++ more)) (lines_of text)
branched [] more len is = absurd (omega (arith, is))
branched (b ∷ text) more len is = rw (← is) (branch b text more)

-- ---- which lines go past the most bytes

pub past_most : (len size : ℕ) → text_max < len → text_max < size → goes_past len size ≡ true
past_most len size long past = grind (arith, nat_tests)

pub within_most : (len size : ℕ) → text_max < len → size ≤ text_max → goes_past len size ≡ false
within_most len size long within = grind (arith, nat_tests)

-- ---- a fold over lines

-- What lines come to behind the first `count`, which have `size` bytes, of a text of so many bytes,
-- from a state. A line that goes past the most bytes decides, and any other hands on to the next; a
-- result that is fine has no line that goes past.
pub record StopsAtLong {T S R : Type 0} (len_of : T → ℕ)
    (f : T → ℕ → ℕ → S → List (List ℕ) → R) (IsFine : R → Type 0) : Type 0 where
  pub stops : (a b : T) (count size : ℕ) (s : S) (line own : List ℕ)
      (rest own_rest : List (List ℕ)) → goes_past (len_of a) (size + (length line + 1)) ≡ true →
      goes_past (len_of b) (size + (length own + 1)) ≡ true →
      f a count size s (line ∷ rest) ≡ f b count size s (own ∷ own_rest)
  pub goes : (a b : T) (count size : ℕ) (s : S) (line : List ℕ) (rest own_rest : List (List ℕ)) →
      goes_past (len_of a) (size + (length line + 1)) ≡ false →
      goes_past (len_of b) (size + (length line + 1)) ≡ false →
      ((next : S) → f a (count + 1) (size + (length line + 1)) next rest
      ≡ f b (count + 1) (size + (length line + 1)) next own_rest) →
      f a count size s (line ∷ rest) ≡ f b count size s (line ∷ own_rest)
  pub long : (a : T) (count size : ℕ) (s : S) (line : List ℕ) (rest : List (List ℕ)) →
      goes_past (len_of a) (size + (length line + 1)) ≡ true →
      IsFine (f a count size s (line ∷ rest)) → ⊥
  pub on : (a : T) (count size : ℕ) (s : S) (line : List ℕ) (rest : List (List ℕ)) →
      IsFine (f a count size s (line ∷ rest)) →
      (next : S) × IsFine (f a (count + 1) (size + (length line + 1)) next rest)

module _ {T S R : Type 0} (len_of : T → ℕ) (f : T → ℕ → ℕ → S → List (List ℕ) → R)
    (IsFine : R → Type 0) (fold : StopsAtLong len_of f IsFine) where
  lines_same : (a b : T) (count size : ℕ) (s : S) (done : List (List ℕ)) (line own : List ℕ)
      (rest own_rest : List (List ℕ)) → text_max < len_of a → text_max < len_of b →
      size + size_of done ≤ text_max → text_max < size + (size_of done + (length line + 1)) →
      text_max < size + (size_of done + (length own + 1)) →
      f a count size s (done ++ line ∷ rest) ≡ f b count size s (done ++ own ∷ own_rest)
  lines_same a b count size s [] line own rest own_rest a_long b_long within past own_past =
      fold.stops a b count size s line own rest own_rest
      (past_most (len_of a) (size + (length line + 1)) a_long (omega (arith, past)))
      (past_most (len_of b) (size + (length own + 1)) b_long (omega (arith, own_past)))
  lines_same a b count size s (first ∷ done) line own rest own_rest a_long b_long within past
      own_past =
      let here : size + (length first + 1) ≤ text_max = omega (arith, within) in
      fold.goes a b count size s first (done ++ line ∷ rest) (done ++ own ∷ own_rest)
      (within_most (len_of a) (size + (length first + 1)) a_long here)
      (within_most (len_of b) (size + (length first + 1)) b_long here)
      (λ next. lines_same a b (count + 1) (size + (length first + 1)) next done line own rest
      own_rest a_long b_long (omega (arith, within)) (omega (arith, past))
      (omega (arith, own_past)))

  lines_long : (a : T) (count size : ℕ) (s : S) (done : List (List ℕ)) (line : List ℕ)
      (rest : List (List ℕ)) → text_max < len_of a →
      text_max < size + (size_of done + (length line + 1)) →
      IsFine (f a count size s (done ++ line ∷ rest)) → ⊥
  lines_long a count size s [] line rest long past fine =
      fold.long a count size s line rest
      (past_most (len_of a) (size + (length line + 1)) long (omega (arith, past))) fine
  lines_long a count size s (first ∷ done) line rest long past fine =
      let next = fold.on a count size s first (done ++ line ∷ rest) fine in
      lines_long a (count + 1) (size + (length first + 1)) next.0 done line rest long
      (omega (arith, past)) next.1

  -- a text that is too long comes to what its first bytes come to
  pub front_same : (a b : T) (s : S) (front more : List ℕ) → length front ≡ text_max + 1 →
      len_of a ≡ length (front ++ more) → len_of b ≡ length front →
      f a 0 0 s (lines_of (front ++ more)) ≡ f b 0 0 s (lines_of front)
  front_same a b s front more is a_is b_is =
      let r = branched front more text_max is in
      let before = r.before in
      let past = r.past in
      let own_past = r.own_past in
      rw (r.long_is, r.short_is) (lines_same a b 0 0 s r.done r.line r.own r.rest r.own_rest
      (omega (arith, is, a_is, length-append front more)) (omega (arith, is, b_is))
      (omega (arith, before)) (omega (arith, past)) (omega (arith, own_past)))

  -- and to nothing fine
  pub long_not_fine : (a : T) (s : S) (text : List ℕ) → length text ≡ text_max + 1 →
      len_of a ≡ length text → IsFine (f a 0 0 s (lines_of text)) → ⊥
  long_not_fine a s text is a_is fine =
      let r = branched text [] text_max is in
      let own_past = r.own_past in
      lines_long a 0 0 s r.done r.own r.own_rest (omega (arith, is, a_is))
      (omega (arith, own_past)) (rw r.short_is at fine)
