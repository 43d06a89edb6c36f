-- States and the two bytes that each is sent in.
use Rattle.std.proofs.Common.{◌≡◌, ℕ, ◌+◌, ◌*◌, ◌/◌, ◌%◌, ◌<◌, zero, suc, List, [], ◌∷◌, ◌++◌}
use Rattle.std.proofs.Common.{length, get_or, set, take, drop, replicate, refl, ap, arith}
use Rattle.std.proofs.lemmas.Bool.Decides.{nat_tests}
use Rattle.mc_column.specs.Cells.{wire, paired}

double : (n : ℕ) → 2 * suc n ≡ suc (suc (2 * n))
double n = omega arith

double_more : (n : ℕ) → 2 * suc n + 1 ≡ suc (suc (2 * n + 1))
double_more n = omega arith

pub length-paired : (bytes : List ℕ) (n : ℕ) → length bytes ≡ 2 * n → length (paired bytes) ≡ n
length-paired [] n e = omega arith
length-paired (low ∷ []) n e = absurd (omega arith)
length-paired (low ∷ high ∷ bytes) zero e = absurd (omega arith)
length-paired (low ∷ high ∷ bytes) (suc n) e = grind (arith, nat_tests, length-paired bytes n)

-- the state at a place is the two bytes at twice that place
pub get_or-paired : (bytes : List ℕ) (i : ℕ) → 2 * i + 1 < length bytes →
    get_or (paired bytes) i 0 ≡ get_or bytes (2 * i) 0 + 256 * get_or bytes (2 * i + 1) 0
get_or-paired [] i lt = absurd (omega arith)
get_or-paired (low ∷ []) i lt = absurd (omega arith)
get_or-paired (low ∷ high ∷ bytes) zero lt = refl
get_or-paired (low ∷ high ∷ bytes) (suc i) lt =
    rw (double_more i, double i) (get_or-paired bytes i (omega arith))

-- a state is written as its two bytes
pub paired-set : (bytes : List ℕ) (i low high : ℕ) → 2 * i + 1 < length bytes →
    paired (set (set bytes (2 * i) low) (2 * i + 1) high) ≡ set (paired bytes) i (low + 256 * high)
paired-set [] i l h lt = absurd (omega arith)
paired-set (low ∷ []) i l h lt = absurd (omega arith)
paired-set (low ∷ high ∷ bytes) zero l h lt = refl
paired-set (low ∷ high ∷ bytes) (suc i) l h lt =
    grind (arith, nat_tests, paired-set bytes i l h (omega arith), double_more i, double i)

pub paired-append : (xs ys : List ℕ) (n : ℕ) → length xs ≡ 2 * n → paired (xs ++ ys) ≡ paired xs ++
    paired ys
paired-append [] ys n e = refl
paired-append (low ∷ []) ys n e = absurd (omega arith)
paired-append (low ∷ high ∷ xs) ys zero e = absurd (omega arith)
paired-append (low ∷ high ∷ xs) ys (suc n) e = grind (arith, nat_tests, paired-append xs ys n)

pub paired-take : (n : ℕ) (bytes : List ℕ) → paired (take (2 * n) bytes) ≡ take n (paired bytes)
paired-take zero bytes = refl
paired-take (suc n) [] = rw (double n) refl
paired-take (suc n) (low ∷ []) = rw (double n) refl
paired-take (suc n) (low ∷ high ∷ bytes) = grind (arith, nat_tests, paired-take n bytes, double n)

pub paired-drop : (n : ℕ) (bytes : List ℕ) → paired (drop (2 * n) bytes) ≡ drop n (paired bytes)
paired-drop zero bytes = refl
paired-drop (suc n) [] = rw (double n) refl
paired-drop (suc n) (low ∷ []) = rw (double n) refl
paired-drop (suc n) (low ∷ high ∷ bytes) = rw (double n) (paired-drop n bytes)

pub paired-wire : (states : List ℕ) → paired (wire states) ≡ states
paired-wire [] = refl
paired-wire (state ∷ states) = grind (arith, nat_tests, paired-wire states)

pub length-wire : (states : List ℕ) → length (wire states) ≡ 2 * length states
length-wire [] = refl
length-wire (state ∷ states) = omega (arith, length-wire states)

pub wire-append : (xs ys : List ℕ) → wire (xs ++ ys) ≡ wire xs ++ wire ys
wire-append [] ys = refl
wire-append (x ∷ xs) ys = rw (wire-append xs ys) refl

-- the low half of a state stands at twice its place, the high half after it
pub wire_low : (states : List ℕ) (i : ℕ) → get_or (wire states) (2 * i) 0 ≡ get_or states i 0 % 256
wire_low [] i = refl
wire_low (state ∷ states) zero = refl
wire_low (state ∷ states) (suc i) = rw (double i) (wire_low states i)

pub wire_high : (states : List ℕ) (i : ℕ) → get_or (wire states) (2 * i + 1) 0 ≡ get_or states i 0 /
    256
wire_high [] i = refl
wire_high (state ∷ states) zero = refl
wire_high (state ∷ states) (suc i) = rw (double_more i) (wire_high states i)

-- bytes that are paired are spelled as they were
pub wire-paired : (bytes : List ℕ) (n : ℕ) → length bytes ≡ 2 * n →
    ((i : ℕ) → get_or bytes i 0 < 256) → wire (paired bytes) ≡ bytes
wire-paired [] n e fit = refl
wire-paired (low ∷ []) n e fit = absurd (omega arith)
wire-paired (low ∷ high ∷ bytes) zero e fit = absurd (omega arith)
wire-paired (low ∷ high ∷ bytes) (suc n) e fit =
    let lt : low < 256 = fit 0 in
    let l : (low + 256 * high) % 256 ≡ low = omega arith in
    let h : (low + 256 * high) / 256 ≡ high = omega arith in
    rw (l, h, wire-paired bytes n (omega arith) (λ i. fit (suc (suc i)))) refl

-- bytes of 0 are states of 0
pub paired-zeros : (n : ℕ) → paired (replicate (2 * n) 0) ≡ replicate n 0
paired-zeros zero = refl
paired-zeros (suc n) = rw (double n) (ap (λ (t : List ℕ). 0 ∷ t) (paired-zeros n))
