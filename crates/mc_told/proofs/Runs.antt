-- Frames of moves that stand side by side: a run goes on by those of the next move, and is one slice
-- of frames that were joined.
use Rattle.std.proofs.Common.{◌≡◌, ℕ, zero, suc, ◌+◌, ◌<◌, ◌≤◌, List, [], ◌∷◌, ◌++◌, length, get_or}
use Rattle.std.proofs.Common.{drop, take, refl, sym, ap, ◌∙◌, arith}
use Rattle.std.proofs.lemmas.Grind.{flat_map-append}
use Rattle.std.proofs.lemmas.List.{append_assoc, append-nil}
use Rattle.std.proofs.lemmas.List.{length-append}
use Rattle.std.proofs.Math.Seq.{drop-append_seam}
use Rattle.std.specs.Ordering.{int_cmp}
use Rattle.std.specs.FinMap.{FinMap, entries, entries-from_sorted, from_sorted}
use lib.IntN.{ℤ}
use Rattle.mc_fields.specs.declared.position.Spot.{Spot}
use Rattle.mc_told.specs.declared.moved.Moved.{Moved}
use Rattle.mc_told.specs.EntityFrames.{AreEncoded, EntitiesValue, move_bytes}
use Rattle.mc_told.specs.KeptRows.{IsRising}
use Rattle.mc_told.specs.Runs.{AreJoined, IsMoveAt, frames_between, frames_in}
use Rattle.mc_told.proofs.EntityFrames.{move_found}

-- ---- lists

module _ {X : Type 0} where
  -- what stands before a place is what stands before an earlier one, and what is between them
  parts_from : (xs : List X) (i j : ℕ) → i ≤ j → take j xs ≡ take i xs ++ drop i (take j xs)
  parts_from [] zero j le = refl
  parts_from [] (suc i) zero le = absurd (omega (arith, le))
  parts_from [] (suc i) (suc j) le = refl
  parts_from (x ∷ xs) zero j le = refl
  parts_from (x ∷ xs) (suc i) zero le = absurd (omega (arith, le))
  parts_from (x ∷ xs) (suc i) (suc j) le =
      ap (λ (ys : List X). x ∷ ys) (parts_from xs i j (omega (arith, le)))

  -- what is between two places is parted by one between them
  parts_between : (xs : List X) (i j k : ℕ) → i ≤ j → j ≤ k →
      drop i (take k xs) ≡ drop i (take j xs) ++ drop j (take k xs)
  parts_between xs zero j k le lk = parts_from xs j k lk
  parts_between [] (suc i) zero k le lk = absurd (omega (arith, le))
  parts_between [] (suc i) (suc j) zero le lk = absurd (omega (arith, lk))
  parts_between [] (suc i) (suc j) (suc k) le lk = refl
  parts_between (x ∷ xs) (suc i) zero k le lk = absurd (omega (arith, le))
  parts_between (x ∷ xs) (suc i) (suc j) zero le lk = absurd (omega (arith, lk))
  parts_between (x ∷ xs) (suc i) (suc j) (suc k) le lk =
      parts_between xs i j k (omega (arith, le)) (omega (arith, lk))

  nothing_between : (xs : List X) (i : ℕ) → drop i (take i xs) ≡ []
  nothing_between xs zero = refl
  nothing_between [] (suc i) = refl
  nothing_between (x ∷ xs) (suc i) = nothing_between xs i

  one_between : (xs : List X) (i n : ℕ) (d : X) → n ≡ i + 1 → i < length xs →
      drop i (take n xs) ≡ get_or xs i d ∷ []
  one_between xs i zero d is lt = absurd (omega (arith, is))
  one_between [] i (suc n) d is lt = absurd (omega (arith, lt))
  one_between (x ∷ xs) zero (suc n) d is lt =
      let none : n ≡ 0 = omega (arith, is) in ap (λ (k : ℕ). x ∷ take k xs) none
  one_between (x ∷ xs) (suc i) (suc n) d is lt =
      one_between xs i n d (omega (arith, is)) (omega (arith, lt))

-- ---- runs

-- a run goes on by another that begins where it ends
pub run_on : (moves : FinMap int_cmp Moved) (i j k : ℕ) → i ≤ j → j ≤ k →
    frames_between moves i k ≡ frames_between moves i j ++ frames_between moves j k
run_on moves i j k le lk =
    ap frames_in (parts_between (entries moves) i j k le lk)
    ∙ flat_map-append (λ (row : ℤ × Moved). row.1.frames) (drop i (take j (entries moves)))
    (drop j (take k (entries moves)))

-- the rows that stand for moves are their entries
pub rows_are : (rows : List (ℤ × Moved)) (moves : FinMap int_cmp Moved) → IsRising rows →
    from_sorted rows ≡ moves → entries moves ≡ rows
rows_are rows moves rising is = ap entries (sym is) ∙ entries-from_sorted int_cmp rows rising

-- the frames of the one at a place
pub run_one : (rows : List (ℤ × Moved)) (moves : FinMap int_cmp Moved) (i : ℕ)
    (row : ℤ × Moved) → entries moves ≡ rows → i < length rows → row ≡ get_or rows i row →
    frames_between moves i (i + 1) ≡ row.1.frames
run_one rows moves i row same lt is =
    ap (λ (es : List (ℤ × Moved)). frames_in (drop i (take (i + 1) es))) same
    ∙ ap frames_in (one_between rows i (i + 1) row refl lt)
    ∙ append-nil (get_or rows i row).1.frames
    ∙ ap (λ (r : ℤ × Moved). r.1.frames) (sym is)

-- ---- joined

-- the slice between two starts is the frames of the moves between their places
pub joined_run : (rows : List (ℤ × Moved)) (joined starts : List ℕ) (i j d e : ℕ) →
    AreJoined rows joined starts → i ≤ j → j < length starts →
    drop (get_or starts i d) (take (get_or starts j e) joined) ≡ frames_in (drop i (take j rows))
joined_run rows joined starts i j d e are le lt =
    let front = frames_in (take i rows) in
    let rest = frames_in (drop i (take j rows)) in
    let whole : frames_in (take j rows) ≡ front ++ rest =
    ap frames_in (parts_from rows i j le)
    ∙ flat_map-append (λ (row : ℤ × Moved). row.1.frames) (take i rows) (drop i (take j rows)) in
    ap (λ (n : ℕ). drop n (take (get_or starts j e) joined)) (are.ends i d (omega (arith, le, lt)))
    ∙ ap (λ (n : ℕ). drop (length front) (take n joined)) (are.ends j e lt)
    ∙ ap (drop (length front)) (are.fronts j lt ∙ whole)
    ∙ drop-append_seam front rest

-- what is joined of the rows before a place
pub record JoinedTo (rows : List (ℤ × Moved)) (n : ℕ) (joined starts : List ℕ) : Type 0 where
  pub all : joined ≡ frames_in (take n rows)
  pub count : length starts ≡ n + 1
  pub are : AreJoined rows joined starts

-- ---- what is sent where frames are due

-- those of a move that stands beside those that are due are due behind them
pub run_next : (moves : FinMap int_cmp Moved) (out due more new : List ℕ) (place at : ℕ) →
    new ≡ due ++ frames_between moves place (place + 1) → at ≡ place →
    frames_between moves at (at + 1) ≡ more → out ++ new ≡ (out ++ due) ++ more
run_next moves out due more new place at put beside is =
    ap (λ (t : List ℕ). out ++ t) (put
    ∙ ap (λ (t : List ℕ). due ++ t) (ap (λ (k : ℕ). frames_between moves k (k + 1)) (sym beside) ∙ is))
    ∙ sym (append_assoc out due more)

-- those at the place of a move are its frames
pub frames_at : (encoded : EntitiesValue) (eid named : ℤ) (from to : Spot) (at : ℕ) →
    named ≡ eid → AreEncoded encoded → IsMoveAt encoded named from to at →
    frames_between encoded.moves at (at + 1) ≡ move_bytes eid from to
frames_at encoded eid named from to at same frames stands =
    move_found encoded named from to (frames_between encoded.moves at (at + 1)) frames stands.is
    ∙ ap (λ (k : ℤ). move_bytes k from to) same

-- ---- where starts are

-- and none behind a later one
pub starts_rise : (rows : List (ℤ × Moved)) (joined starts : List ℕ) (i j d e : ℕ) →
    AreJoined rows joined starts → i ≤ j → j < length starts →
    get_or starts i d ≤ get_or starts j e
starts_rise rows joined starts i j d e are le lt =
    let whole : frames_in (take j rows) ≡ frames_in (take i rows) ++ frames_in (drop i (take j rows)) =
    ap frames_in (parts_from rows i j le)
    ∙ flat_map-append (λ (row : ℤ × Moved). row.1.frames) (take i rows) (drop i (take j rows)) in
    let long = ap (λ (xs : List ℕ). length xs) whole
    ∙ length-append (frames_in (take i rows)) (frames_in (drop i (take j rows))) in
    omega (arith, are.ends i d (omega (arith, le, lt)), are.ends j e lt, long)
