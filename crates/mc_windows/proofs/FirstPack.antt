-- The first pack holds piles of the world.
use Rattle.std.proofs.Common.{ℕ, zero, suc, ◌≤◌, List, [], ◌∷◌, ◌++◌, replicate, refl, arith}
use Rattle.std.proofs.Common.{lit≤}
use Rattle.std.proofs.lemmas.Bool.Decides.{nat_tests}
use Rattle.mc_slots.specs.declared.pile.Pile.{Pile}
use Rattle.mc_slots.specs.declared.pile.Pile.TheVariants.{Empty}
use Rattle.mc_slots.specs.Pile.{IsPile}
use Rattle.mc_slots.specs.Chest.{pile_at}
use Rattle.mc_windows.specs.Pack.{IsPack, kit_pack, some_of}

abbrev ArePiles : List Pile → Type 0
ArePiles piles = (i : ℕ) → IsPile (pile_at piles i)

at_cons : (pile : Pile) (piles : List Pile) → IsPile pile → ArePiles piles → ArePiles (pile ∷ piles)
at_cons pile piles is rest zero = is
at_cons pile piles is rest (suc i) = rest i

at_none : ArePiles []
at_none i = tt

at_empties : (n : ℕ) (piles : List Pile) → ArePiles piles → ArePiles (replicate n Empty ++ piles)
at_empties zero piles rest = rest
at_empties (suc n) piles rest = at_cons Empty (replicate n Empty ++ piles) tt
    (at_empties n piles rest)

-- so many of an item of damage 0 are a pile
is_pile : (id count : ℕ) → 1 ≤ id → id ≤ 255 → 1 ≤ count → count ≤ 64 → IsPile (some_of id count)
is_pile id count low high some few = grind (arith, nat_tests)

pub kit_is_pack : IsPack kit_pack.slots kit_pack.cursor
kit_is_pack = record {
  size = refl;
  are_piles =
      at_empties 27 (some_of 1 64 ∷ some_of 3 64 ∷ some_of 5 64 ∷ some_of 54 4 ∷ replicate 5 Empty)
      (
      at_cons (some_of 1 64) (some_of 3 64 ∷ some_of 5 64 ∷ some_of 54 4 ∷ replicate 5 Empty)
      (is_pile 1 64 (lit≤ tt) (lit≤ tt) (lit≤ tt) (lit≤ tt)) (
      at_cons (some_of 3 64) (some_of 5 64 ∷ some_of 54 4 ∷ replicate 5 Empty)
      (is_pile 3 64 (lit≤ tt) (lit≤ tt) (lit≤ tt) (lit≤ tt)) (
      at_cons (some_of 5 64) (some_of 54 4 ∷ replicate 5 Empty)
      (is_pile 5 64 (lit≤ tt) (lit≤ tt) (lit≤ tt) (lit≤ tt)) (
      at_cons (some_of 54 4) (replicate 5 Empty)
      (is_pile 54 4 (lit≤ tt) (lit≤ tt) (lit≤ tt) (lit≤ tt)) (at_empties 5 [] at_none)))));
  is_pile = tt;
}
