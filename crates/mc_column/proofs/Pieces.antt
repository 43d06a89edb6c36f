-- Lists of equal length, one after another.
use Rattle.std.proofs.Common.{◌≡◌, ℕ, ◌+◌, ◌*◌, ◌<◌, ◌≤◌, Bool, true, false, cond, zero, suc}
use Rattle.std.proofs.Common.{List, [], ◌++◌, length, get_or, set, take, drop, replicate, refl, sym}
use Rattle.std.proofs.Common.{ap, ◌∙◌, arith, append_assoc}
use Rattle.std.proofs.Math.Seq.{take-add}
use Rattle.std.proofs.lemmas.Bool.Decides.{nat_tests}
use Rattle.std.proofs.lemmas.Bool.{cases_eq}
use Rattle.std.proofs.lemmas.List.{append-nil, drop_all, length-append, length-drop, drop_at}
use Rattle.std.proofs.lemmas.List.{take_all, take-append-le, drop-append-le, get_or-take}
use Rattle.std.proofs.lemmas.List.{get_or-drop, set-append_left, set-append_right}
use Rattle.std.proofs.lemmas.List.{replicate-append-replicate}
use Rattle.std.proofs.lemmas.Nat.{mul-add-lt}
use Rattle.mc_column.specs.Cells.{joined, picked, rank}

-- each list below m has n elements
pub record AreSized (f : ℕ → List ℕ) (n m : ℕ) : Type 0 where
  pub at : (k : ℕ) → k < m → length (f k) ≡ n

AreSized-less : (f : ℕ → List ℕ) (n m : ℕ) → AreSized f n (suc m) → AreSized f n m
AreSized-less f n m sized = record { at = λ k lt. sized.at k (omega arith) }

rank_le : (p : ℕ → Bool) (i m : ℕ) → i ≤ m → rank p i ≤ rank p m
rank_le p i zero le = let e : i ≡ 0 = omega arith in rw e (omega arith)
rank_le p i (suc m) le = grind (arith, nat_tests, rank_le p i m, cases_eq i (suc m))

pub rank_below : (p : ℕ → Bool) (i m : ℕ) → i < m → p i ≡ true → rank p i + 1 ≤ rank p m
rank_below p i m lt passes = grind (arith, nat_tests, rank_le p (suc i) m)

pub rank_all : (m : ℕ) → rank (λ _. true) m ≡ m
rank_all zero = refl
rank_all (suc m) = omega (arith, rank_all m)

times_more : (r n : ℕ) → (r + 1) * n ≡ r * n + n
times_more r n = grind arith

pub length-joined : (p : ℕ → Bool) (f : ℕ → List ℕ) (n m : ℕ) → AreSized f n m →
    length (joined (picked p f) m) ≡ rank p m * n
length-joined p f n zero sized = let z : 0 * n ≡ 0 = omega arith in rw z refl
length-joined p f n (suc m) sized =
    let before = length-joined p f n m (AreSized-less f n m sized) in
    let last = sized.at m (omega arith) in
    elim (p m) as (λ b. length (joined (picked p f) m ++ cond b (f m) []) ≡
    (rank p m + cond b 1 0) * n) [
      | true ↦ omega (arith, length-append (joined (picked p f) m) (f m), times_more (rank p m) n)
      | false ↦ omega (arith, length-append (joined (picked p f) m) [])
    ]

times_le : (a b n : ℕ) → a ≤ b → a * n ≤ b * n
times_le a b n le = grind arith

-- a part that ends within a list is a part of it with anything behind
drop_front : (n k : ℕ) (xs ys : List ℕ) → k + n ≤ length xs → take n (drop k (xs ++ ys)) ≡
    take n (drop k xs)
drop_front n k xs ys le = grind (arith, nat_tests, drop-append-le, take-append-le, length-drop)

-- the piece of a number that passes stands after as many pieces as there are such numbers below it
pub piece : (p : ℕ → Bool) (f : ℕ → List ℕ) (n i m : ℕ) → AreSized f n m → i < m → p i ≡ true →
    take n (drop (rank p i * n) (joined (picked p f) m)) ≡ f i
piece p f n i zero sized lt passes = absurd (omega arith)
piece p f n i (suc m) sized lt passes = grind (
  arith,
  piece p f n i m (AreSized-less f n m sized),
  length-joined p f n m (AreSized-less f n m sized),
  drop_at (joined (picked p f) m) (f m) (rank p i * n),
  take_all n (f m),
  times_le (rank p i + 1) (rank p m) n,
  rank_below p i m,
  drop_front n (rank p i * n) (joined (picked p f) m) (picked p f m),
)

-- a piece, where each number passes
pub piece_all : (f : ℕ → List ℕ) (n i m : ℕ) → AreSized f n m → i < m →
    take n (drop (i * n) (joined f m)) ≡ f i
piece_all f n i m sized lt =
    let e : rank (λ _. true) i ≡ i = rank_all i in
    rw (e) at (piece (λ _. true) f n i m sized lt refl)

pub length-joined_all : (f : ℕ → List ℕ) (n m : ℕ) → AreSized f n m → length (joined f m) ≡ m * n
length-joined_all f n m sized = rw (rank_all m) at (length-joined (λ _. true) f n m sized)

-- lists are joined alike where the pieces are alike
pub joined_same : (f g : ℕ → List ℕ) (m : ℕ) → ((k : ℕ) → k < m → f k ≡ g k) →
    joined f m ≡ joined g m
joined_same f g zero same = refl
joined_same f g (suc m) same = grind (arith, nat_tests, joined_same f g m)

-- a list of m pieces is these, one after another
pub joined_pieces : (xs : List ℕ) (n m : ℕ) → joined (λ i. take n (drop (i * n) xs)) m ≡
    take (m * n) xs
joined_pieces xs n zero = let z : 0 * n ≡ 0 = omega arith in rw z refl
joined_pieces xs n (suc m) = grind (arith, nat_tests, joined_pieces xs n m, take-add (m * n) n xs)

-- an element of a piece
pub get_or-joined : (f : ℕ → List ℕ) (n i k m : ℕ) → AreSized f n m → i < m → k < n →
    get_or (joined f m) (i * n + k) 0 ≡ get_or (f i) k 0
get_or-joined f n i k m sized lt inside =
    sym (get_or-drop (i * n) (joined f m) k 0) ∙
    sym (get_or-take n (drop (i * n) (joined f m)) k 0 inside) ∙
    ap (λ (t : List ℕ). get_or t k 0) (piece_all f n i m sized lt)

-- an element is put into a piece
pub joined-set : (f g : ℕ → List ℕ) (n i k v m : ℕ) → AreSized f n m → i < m → k < n →
    g i ≡ set (f i) k v → ((j : ℕ) → (j ≡ i → ⊥) → g j ≡ f j) →
    joined g m ≡ set (joined f m) (i * n + k) v
joined-set f g n i k v zero sized lt inside changed kept = absurd (omega arith)
joined-set f g n i k v (suc m) sized lt inside changed kept = grind (
  arith,
  joined-set f g n i k v m (AreSized-less f n m sized),
  length-joined_all f n m (AreSized-less f n m sized),
  joined_same g f m,
  set-append_right (joined f m) (f m) (m * n) (m * n + k) v,
  mul-add-lt i n k m,
  set-append_left (joined f m) (f m) (i * n + k) v,
)

-- another piece in place of one
pub joined-put : (f g : ℕ → List ℕ) (n i m : ℕ) → AreSized f n m → i < m → length (g i) ≡ n →
    ((j : ℕ) → (j ≡ i → ⊥) → g j ≡ f j) → joined g m ≡ take (i * n) (joined f m) ++
    (g i ++ drop (i * n + n) (joined f m))
joined-put f g n i zero sized lt len kept = absurd (omega arith)
joined-put f g n i (suc m) sized lt len kept = grind (
  arith,
  joined-put f g n i m (AreSized-less f n m sized),
  length-joined_all f n m (AreSized-less f n m sized),
  joined_same g f m,
  take-append-le (i * n) (joined f m) (f m),
  take_all (m * n) (joined f m),
  drop_all (m * n + n) (joined f m ++ f m),
  length-append (joined f m) (f m),
  append-nil (g m),
  times_le (i + 1) m n,
  drop-append-le (i * n + n) (joined f m) (f m),
  regroup (take (i * n) (joined f m)) (g i) (drop (i * n + n) (joined f m)) (f m),
)
  where
    regroup : (a b c d : List ℕ) → (a ++ (b ++ c)) ++ d ≡ a ++ (b ++ (c ++ d))
    regroup a b c d = simp append_assoc

-- pieces that are copies of one element are so many copies
pub joined_copies : (f : ℕ → List ℕ) (n m a : ℕ) → ((k : ℕ) → k < m → f k ≡ replicate n a) →
    joined f m ≡ replicate (m * n) a
joined_copies f n zero a same = let z : 0 * n ≡ 0 = omega arith in rw z refl
joined_copies f n (suc m) a same =
    grind (arith, nat_tests, joined_copies f n m a, replicate-append-replicate)
