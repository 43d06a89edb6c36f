-- A player's pack, and the window that it is shown in (rules of this project).
use Rattle.std.specs.Prelude.{◌≡◌, ℕ, ◌+◌, ◌%◌, ◌==◌, Bool, false, ◌&&◌, List, ◌∷◌, ◌++◌}
use Rattle.std.specs.Prelude.{length, replicate, Option, Some, None, if◌then◌else◌}
use Rattle.std.specs.Ordering.{int_eq}
use lib.IntN.{ℤ, pos}
use Rattle.mc_slots.specs.declared.pile.Pile.{Pile}
use Rattle.mc_slots.specs.declared.pile.Pile.TheVariants.{Empty, Full}
use Rattle.mc_slots.specs.Pile.{IsPile}
use Rattle.mc_slots.specs.Chest.{pile_at}
use Rattle.mc_windows.specs.declared.pack.TheConstants.{PACK_PILES, MAIN_PILES, LAST_WINDOW}

-- how many piles a pack has, without the cursor
abbrev pub pack_size : ℕ
pack_size = PACK_PILES

-- the piles of the main part and then those of the hotbar, what hangs on the cursor, the number of
-- the shown chest window (0 where none is), that of the last one, and the number of the refused
-- click that is yet to be confirmed
pub record PackValue : Type 0 where
  pub slots : List Pile
  pub cursor : Pile
  pub window : ℕ
  pub last : ℕ
  pub waiting : Option ℤ

-- so many piles of items that the world holds
pub record IsPack (slots : List Pile) (cursor : Pile) : Type 0 where
  pub size : length slots ≡ pack_size
  pub are_piles : (i : ℕ) → IsPile (pile_at slots i)
  pub is_pile : IsPile cursor

-- so many of an item of damage 0
abbrev pub some_of : ℕ → ℕ → Pile
some_of id count = Full (record { id = pos id; damage = pos 0; count = count })

-- the pack of who joins for the first time: in the hotbar stone, dirt, planks and chests
abbrev pub kit_pack : PackValue
kit_pack = record {
  slots = replicate MAIN_PILES Empty ++ some_of 1 64 ∷ some_of 3 64 ∷ some_of 5 64 ∷ some_of 54 4 ∷
      replicate 5 Empty;
  cursor = Empty;
  window = 0;
  last = 0;
  waiting = None;
}

-- the number that is waited for is this one
abbrev pub is_waiting_for : ℤ → Option ℤ → Bool
is_waiting_for number None = false
is_waiting_for number (Some waiting) = int_eq waiting number

-- the client confirmed a number in a window
abbrev pub answered_pack : ℕ → ℤ → PackValue → PackValue
answered_pack window number pack =
    if window == pack.window && is_waiting_for number pack.waiting
    then record pack { waiting = None } else pack

-- the next chest window is shown: the numbers go from 1 to 100 and begin again
abbrev pub begun_pack : PackValue → PackValue
begun_pack pack = record pack {
  window = pack.last % LAST_WINDOW + 1;
  last = pack.last % LAST_WINDOW + 1;
  waiting = None;
}

-- no chest window is shown any more, and nothing hangs on the cursor
abbrev pub finished_pack : PackValue → PackValue
finished_pack pack = record pack { window = 0; waiting = None; cursor = Empty }
