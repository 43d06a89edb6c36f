-- The piles of a chest (a rule of this project).
use Rattle.std.specs.Prelude.{◌≡◌, ℕ, zero, suc, refl, List, length, slice_index_or, replicate}
use Rattle.mc_slots.specs.declared.chest.TheConstants.{CHEST_PILES}
use Rattle.mc_slots.specs.declared.pile.Pile.{Pile}
use Rattle.mc_slots.specs.declared.pile.Pile.TheVariants.{Empty}
use Rattle.mc_slots.specs.Pile.{IsPile}

-- how many piles a chest has
abbrev pub chest_size : ℕ
chest_size = CHEST_PILES

abbrev pub pile_at : List Pile → ℕ → Pile
pile_at piles i = slice_index_or piles i Empty

-- so many piles of items that the world holds
pub record IsChest (piles : List Pile) : Type 0 where
  pub size : length piles ≡ chest_size
  pub are_piles : (i : ℕ) → IsPile (pile_at piles i)

abbrev pub empty_chest : List Pile
empty_chest = replicate chest_size Empty

empty_at : (n i : ℕ) → IsPile (pile_at (replicate n Empty) i)
empty_at zero i = tt
empty_at (suc n) zero = tt
empty_at (suc n) (suc i) = empty_at n i

pub empty_is_chest : IsChest empty_chest
empty_is_chest = record { size = refl; are_piles = empty_at chest_size }
