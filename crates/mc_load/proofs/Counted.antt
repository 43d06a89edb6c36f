-- How many events a load has.
use Rattle.std.proofs.Common.{◌≡◌, ℕ, ◌+◌, ◌*◌, List, [], ◌∷◌, length, map, arith, refl}
use Rattle.std.proofs.lemmas.List.{length-append}
use Rattle.std.proofs.lemmas.List.FromFn.{length-map-range_with_len, length-range_with_len}
use Rattle.std.specs.List.{flat_map, range_with_len}
use Rattle.mc_model.specs.Step.{ticked}
use Rattle.mc_load.specs.Load.{arrival, client_turn, load_events, load_round}

-- so many for each of a list
each_so_many : {X A : Type 0} (f : X → List A) (k : ℕ) → ((x : X) → length (f x) ≡ k) →
    (xs : List X) → length (flat_map f xs) ≡ length xs * k
each_so_many f k each [] = omega arith
each_so_many f k each (x ∷ xs) =
    grind (arith, length-append (f x) (flat_map f xs), each x, each_so_many f k each xs)

round_count : (n t : ℕ) → length (load_round n t) ≡ n + 1
round_count n t = omega (
  arith,
  length-append (map (client_turn t) (range_with_len 0 n)) (ticked ∷ []),
  length-map-range_with_len (client_turn t) 0 n,
)

pub events_counted : (n ticks : ℕ) → length (load_events n ticks) ≡ 2 * n + ticks * (n + 1)
events_counted n ticks =
    let come = each_so_many arrival 2 (λ i. refl) (range_with_len 0 n) in
    let turns = each_so_many (load_round n) (n + 1) (round_count n) (range_with_len 1 ticks) in
    grind (
      arith,
      length-append (flat_map arrival (range_with_len 0 n))
          (flat_map (load_round n) (range_with_len 1 ticks)),
      come,
      turns,
      length-range_with_len 0 n,
      length-range_with_len 1 ticks,
    )
