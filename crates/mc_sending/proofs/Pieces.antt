-- Bytes that are appended piece after piece.
use Rattle.std.proofs.Common.{◌≡◌, ℕ, suc, ◌≤◌, Bool, true, false, cond, List, [], ◌∷◌, ◌++◌, map}
use Rattle.std.proofs.Common.{length, sym, ap, ◌∙◌, arith, append_assoc}
use Rattle.std.specs.List.{AllByRecursion, filter}
use Rattle.std.proofs.lemmas.List.{map-append, append-nil}
use Rattle.std.proofs.lemmas.Grind.{flat_map-append}
use Rattle.mc_packets.specs.declared.down.Down.{Down}
use Rattle.mc_model.specs.Packets.{of_play, frame_of, bytes_of}
use Rattle.mc_sending.specs.Sending.{play_bytes}
use Rattle.std.proofs.lemmas.Bool.Decides.{nat_tests}

-- the next piece of what is left is appended
pub next_piece : (now after total piece rest left : List ℕ) → left ≡ piece ++ rest →
    now ++ left ≡ total → after ≡ now ++ piece → after ++ rest ≡ total
next_piece now after total piece rest left next all put = rw (
  put,
  append_assoc now piece rest,
  ←
      next,
) all

-- what holds of all that is left holds of the next, and of those after it
pub next_holds : {A : Type 0} (P : A → Type 0) (left rest : List A) (x : A) → left ≡ x ∷ rest →
    AllByRecursion P left → P x × AllByRecursion P rest
next_holds P left rest x is all = rw is at all

-- packets, and others behind them
pub play_bytes-append : (xs ys : List Down) → play_bytes (xs ++ ys) ≡ play_bytes xs ++ play_bytes ys
play_bytes-append xs ys = ap bytes_of (map-append of_play xs ys)
    ∙ flat_map-append frame_of (map of_play xs) (map of_play ys)

-- one packet
pub play_bytes-one : (packet : Down) → frame_of (of_play packet) ≡ play_bytes (packet ∷ [])
play_bytes-one packet = sym (append-nil (frame_of (of_play packet)))

-- ---- filters

-- what holds of all holds of those that pass a test
pub all_filtered : {A : Type 0} (P : A → Type 0) (test : A → Bool) (xs : List A) →
    AllByRecursion P xs → AllByRecursion P (filter test xs)
all_filtered P test [] a = tt
all_filtered {A} P test (x ∷ xs) a = step (test x) (all_filtered P test xs a.1)
  where
    step : (t : Bool) → AllByRecursion P (filter test xs) →
        AllByRecursion P (cond t (x ∷ filter test xs) (filter test xs))
    step true rest = (a.0, rest)
    step false rest = rest

-- and those are no more
pub few_filtered : {A : Type 0} (test : A → Bool) (xs : List A) →
    length (filter test xs) ≤ length xs
few_filtered test [] = grind (arith, nat_tests)
few_filtered {A} test (x ∷ xs) = grind (arith, nat_tests, few_filtered test xs)

-- bytes behind bytes
pub two_put : (old one two a b : List ℕ) → one ≡ old ++ a → two ≡ one ++ b → two ≡ old ++ (a ++ b)
two_put old one two a b first second =
    second ∙ ap (λ (t : List ℕ). t ++ b) first ∙ append_assoc old a b
