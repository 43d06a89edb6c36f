-- Moves made one after the other.
use Rattle.std.proofs.Common.{◌≡◌, ℕ, suc, ◌+◌, List, [], ◌∷◌, ◌++◌, refl, add-one}
use Rattle.mc_windows.specs.declared.place.Place.{Place}
use Rattle.mc_windows.specs.declared.order.Order.{Order}
use Rattle.mc_windows.specs.declared.moves.How.{How}
use Rattle.mc_windows.specs.declared.moves.Move.{Move}
use Rattle.mc_windows.specs.declared.desk.Desk.{Desk}
use Rattle.mc_windows.specs.Moves.{made, move, run}
use Rattle.mc_windows.specs.Clicks.{place_in, to_each}

-- two lists of moves are made one after the other
pub run_append : (xs ys : List Move) (desk : Desk) → run (xs ++ ys) desk ≡ run ys (run xs desk)
unfolding run
run_append [] ys desk = refl
run_append (x ∷ xs) ys desk = run_append xs ys (made x desk)

-- the moves to one place more end with the move to it
pub next : (how : How) (from : Place) (order : Order) (n : ℕ) (desk : Desk)
    → run (to_each how from order (suc n)) desk ≡ made (move how from (place_in order n))
    (run (to_each how from order n) desk)
unfolding run to_each
next how from order n desk = run_append (to_each how from order n)
    (move how from (place_in order n) ∷ []) desk

pub one_more : (how : How) (from : Place) (order : Order) (n : ℕ) (desk : Desk)
    → run (to_each how from order (n + 1)) desk ≡ made (move how from (place_in order n))
    (run (to_each how from order n) desk)
one_more how from order n desk = rw (add-one n) (next how from order n desk)
