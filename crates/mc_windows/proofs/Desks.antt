-- A pile put at a place of a desk: what the other places hold, which places there are, and how many
-- items there are.
use Rattle.std.proofs.Common.{◌≡◌, ℕ, ◌+◌, ◌==◌, true, false, nat_lt, List, length}
use Rattle.std.proofs.Common.{slice_set, Option, Some, None, is_some, refl, ap, arith}
use Rattle.std.proofs.lemmas.Bool.Decides.{nat_tests}
use Rattle.std.proofs.lemmas.List.{get_or-set_other, length-set}
use Rattle.std.proofs.lemmas.List.Sums.{sum_by-set}
use Rattle.std.proofs.lemmas.Bool.{eqb-false, ltb-true}
use Rattle.mc_slots.specs.declared.pile.Pile.{Pile}
use Rattle.mc_slots.specs.Pile.{Sort, held}
use Rattle.mc_slots.specs.Chest.{pile_at}
use Rattle.mc_windows.specs.declared.place.Place.{Place}
use Rattle.mc_windows.specs.declared.place.Place.TheVariants.{Chested}
use Rattle.mc_windows.specs.declared.desk.Desk.{Desk}
use Rattle.mc_windows.specs.Pack.{PackValue}
use Rattle.mc_windows.specs.Stock.{in_piles}
use Rattle.mc_windows.specs.Moves.{at, is_here, same_place, stock, write}

-- one pile in the place of another
pub piles_with : (sort : Sort) (piles : List Pile) (i : ℕ) (pile : Pile)
    → nat_lt i (length piles) ≡ true → in_piles sort (slice_set piles i pile) + held sort
    (pile_at piles i) ≡ in_piles sort piles + held sort pile
piles_with sort piles i pile here = grind (arith, nat_tests, sum_by-set, ltb-true)

other_pile : (piles : List Pile) (i j : ℕ) (pile : Pile) → (i == j) ≡ false
    → pile_at (slice_set piles i pile) j ≡ pile_at piles j
other_pile piles i j pile other = grind (arith, nat_tests, get_or-set_other, eqb-false)

-- the number of items with a pile at a place is what it was, without the pile that was there
stock_chested : (sort : Sort) (pack : PackValue) (chest : Option (List Pile)) (floor : Pile)
    (i : ℕ) (pile : Pile)
    → (let desk : Desk = record { pack = pack; chest = chest; floor = floor }
    in is_here desk (Chested i) ≡ true → stock sort (write desk (Chested i) pile) + held sort
    (at desk (Chested i)) ≡ stock sort desk + held sort pile)
stock_chested sort pack chest floor i pile here = grind (arith, nat_tests, ltb-true, piles_with)

pub stock_with : (sort : Sort) (desk : Desk) (place : Place) (pile : Pile)
    → is_here desk place ≡ true → stock sort (write desk place pile) + held sort (at desk place)
    ≡ stock sort desk + held sort pile
stock_with sort desk place pile here = grind (arith, nat_tests, stock_chested, piles_with)

-- another place holds what it held
at_chested : (chest : Option (List Pile)) (i j : ℕ) (pile : Pile) (pack : PackValue) (floor : Pile)
    → (i == j) ≡ false → (let desk : Desk = record { pack = pack; chest = chest; floor = floor }
    in at (write desk (Chested i) pile) (Chested j) ≡ at desk (Chested j))
at_chested None i j pile pack floor other = refl
at_chested (Some piles) i j pile pack floor other = other_pile piles i j pile other

pub at_other : (desk : Desk) (place there : Place) (pile : Pile) → same_place place there ≡ false
    → at (write desk place pile) there ≡ at desk there
at_other desk place there pile other = grind (arith, nat_tests, at_chested, other_pile)

-- the places stay
here_chested : (chest : Option (List Pile)) (i j : ℕ) (pile : Pile) (pack : PackValue)
    (floor : Pile) → (let desk : Desk = record { pack = pack; chest = chest; floor = floor }
    in is_here (write desk (Chested i) pile) (Chested j) ≡ is_here desk (Chested j))
here_chested None i j pile pack floor = refl
here_chested (Some piles) i j pile pack floor = ap (nat_lt j) (length-set piles i pile)

pub here_still : (desk : Desk) (place there : Place) (pile : Pile)
    → is_here (write desk place pile) there ≡ is_here desk there
here_still desk place there pile = grind (arith, nat_tests, here_chested, length-set)

-- a chest neither comes nor goes
shown_by : (chest : Option (List Pile)) (i : ℕ) (pile : Pile) (pack : PackValue) (floor : Pile)
    → (let desk : Desk = record { pack = pack; chest = chest; floor = floor }
    in is_some (write desk (Chested i) pile).chest ≡ is_some chest)
shown_by None i pile pack floor = refl
shown_by (Some piles) i pile pack floor = refl

pub shown_still : (desk : Desk) (place : Place) (pile : Pile)
    → is_some (write desk place pile).chest ≡ is_some desk.chest
shown_still desk place pile = grind (arith, nat_tests)
