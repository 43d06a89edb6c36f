-- The first mark holds: it says of a pack of empty piles, and of an empty cursor.
use Rattle.std.proofs.Common.{ℕ, zero, suc, replicate, refl}
use Rattle.std.specs.Prelude.{None}
use Rattle.mc_slots.specs.declared.pile.Pile.TheVariants.{Empty}
use Rattle.mc_slots.specs.Pile.{IsPile}
use Rattle.mc_slots.specs.Chest.{pile_at}
use Rattle.mc_windows.specs.Pack.{IsPack, pack_size}
use Rattle.mc_view.specs.Told.{Told}
use Rattle.mc_flush.specs.Seeing.{IsMark}

-- each of some empty piles is a pile, and so is what lies behind them
empty_piles : (n i : ℕ) → IsPile (pile_at (replicate n Empty) i)
empty_piles zero i = tt
empty_piles (suc n) zero = tt
empty_piles (suc n) (suc i) = empty_piles n i

-- a pack of empty piles is one
empty_pack : IsPack (replicate pack_size Empty) Empty
empty_pack = record { size = refl; are_piles = empty_piles pack_size; is_pile = tt }

-- the mark of a client that was shown nothing is one
pub first_mark : (told : Told) →
    IsMark (record {
      beat = None;
      age = None;
      view = None;
      told = told;
      window = None;
      slots = replicate pack_size Empty;
      cursor = Empty;
    })
first_mark told = record { pack = empty_pack }
