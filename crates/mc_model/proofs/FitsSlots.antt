-- The packets of slots fit: a slot of a window, and a window with all its slots.
use Rattle.std.proofs.lemmas.Bool.Decides.{nat_tests}
use Rattle.std.proofs.Common.{ℕ, suc, ◌<◌, ◌≤◌, List, ◌∷◌, ◌++◌, map, length, lit<, arith, []}
use Rattle.std.specs.Prelude.{Option, Some, None, replicate}
use Rattle.std.specs.Int.{w8, w16}
use Rattle.std.specs.List.{AllByRecursion}
use Rattle.std.proofs.lemmas.List.{length-append, length-map}
use Rattle.std.proofs.lemmas.Int.{ints}
use lib.IntN.{ℤ, pos, negsuc}
use lib.Signed.{◌≤ℤ◌}
use mir.Val.{SFits}
use Rattle.mc_slots.specs.declared.slot.Slot.{Slot}
use Rattle.mc_slots.specs.declared.slot.Slot.TheVariants as slots
use Rattle.mc_slots.specs.declared.pile.Pile.{Pile}
use Rattle.mc_slots.specs.declared.pile.Pile.TheVariants.{Empty, Full}
use Rattle.mc_slots.specs.Slot.{FitsSlot, slot_most}
use Rattle.mc_slots.specs.Pile.{IsPile, slot_of}
use Rattle.mc_slots.specs.Chest.{IsChest, pile_at}
use Rattle.mc_packets.specs.declared.down.Down.TheVariants.{SetSlot, WindowItems}
use Rattle.mc_windows.specs.declared.pack.TheConstants.{LAST_WINDOW}
use Rattle.mc_windows.specs.Pack.{PackValue, IsPack}
use Rattle.mc_model.specs.Packets.{of_play, for_play}
use Rattle.mc_model.specs.Notes.{window_items, window_packets}
use Rattle.mc_model.proofs.AllFacts.{all_joined}
use Rattle.mc_model.proofs.Decodes.{IsClear, play_clear}
use Rattle.mc_model.proofs.FitsSize.{fields, all_fit, all_few}
use Rattle.mc_model.proofs.FitsList.{AreClear}

-- ---- a slot

-- a slot that has a spelling, and none of too many bytes
pub record SlotFits (item : Slot) : Type 0 where
  pub fits : FitsSlot item
  pub few : slot_most item ≤ 6

-- numbers of a pile fit their fields
byte_fits : (n : ℕ) → n ≤ 64 → SFits w8 (pos n)
byte_fits n le = record { sfits = omega (arith, le) }

-- likewise those of an id and a damage
short_fits : (z : ℤ) → pos 0 ≤ℤ z → z ≤ℤ pos 255 → SFits w16 z
short_fits (pos n) low high = record { sfits = omega (arith, ints, high) }
short_fits (negsuc n) low high = absurd (omega (arith, ints, low))

-- the slot of a pile has a spelling
pub pile_fits : (pile : Pile) → IsPile pile → FitsSlot (slot_of pile)
pile_fits Empty is = (tt, tt)
pile_fits (Full item) is = grind (arith, nat_tests, byte_fits, short_fits)

-- of six bytes at most
pub pile_few : (pile : Pile) → slot_most (slot_of pile) ≤ 6
pile_few Empty = omega arith
pile_few (Full item) = omega arith

-- so it fits
pub pile_slot_fits : (pile : Pile) → IsPile pile → SlotFits (slot_of pile)
pile_slot_fits pile is = record { fits = pile_fits pile is; few = pile_few pile }

-- ---- one slot of a window

-- SetSlot, of a slot that fits
pub slot_clear : (window i : ℤ) (item : Slot) → SFits w8 window → SFits w16 i → SlotFits item
    → IsClear for_play (of_play (SetSlot window i item))
slot_clear window i item at_window at_i f =
    play_clear (SetSlot window i item) (search (fields, f.fits)) (omega (arith, f.few))

-- and of that of a pile
pub set_slot_clear : (window i : ℤ) (pile : Pile) → SFits w8 window → SFits w16 i → IsPile pile
    → IsClear for_play (of_play (SetSlot window i (slot_of pile)))
set_slot_clear window i pile at_window at_i is = search (arith, pile_slot_fits, slot_clear)

-- ---- all slots of a window

-- a window of a number that is a byte, and of not too many slots
pub items_clear : (number : ℕ) (items : List Slot) → number < 256 → length items ≤ 100 →
    AllByRecursion SlotFits items → IsClear for_play (of_play (WindowItems number items))
items_clear number items small few f =
    let counted : SFits w16 (pos (length items)) = record { sfits = omega (arith, few) } in
    let all = all_fit SlotFits FitsSlot (λ item fits. fits.fits) items f in
    let le = all_few SlotFits slot_most 6 (λ item fits. fits.few) items f in
    play_clear (WindowItems number items) (search (fields, all, small)) (omega (arith, few, le))

-- ---- the window of a pack

-- the slots of piles
pub piles_fit : (piles : List Pile) → ((i : ℕ) → IsPile (pile_at piles i))
    → AllByRecursion SlotFits (map slot_of piles)
piles_fit [] is = tt
piles_fit (pile ∷ piles) is = (pile_slot_fits pile (is 0), piles_fit piles (λ i. is (suc i)))

-- nine empty ones before them
window_piles : (piles : List Pile) → ((i : ℕ) → IsPile (pile_at piles i))
    → AllByRecursion SlotFits (replicate 9 slots.Empty ++ map slot_of piles)
window_piles piles is = grind (arith, nat_tests, pile_slot_fits, piles_fit)

-- a chest that may be shown in a window of a number
abbrev pub ChestFits : ℕ → Option (List Pile) → Type 0
ChestFits number None = Unit {0}
ChestFits number (Some piles) = (number ≤ LAST_WINDOW) × IsChest piles

-- the window with all slots
window_items_clear : (pack : PackValue) (chest : Option (List Pile)) →
    IsPack pack.slots pack.cursor → ChestFits pack.window chest →
    IsClear for_play (of_play (window_items pack chest))
window_items_clear pack None is fits =
    items_clear 0 (replicate 9 slots.Empty ++ map slot_of pack.slots) (lit< tt)
    (omega (arith, is.size, length-map pack.slots slot_of))
    (window_piles pack.slots is.are_piles)
window_items_clear pack (Some piles) is (low, chest) =
    items_clear pack.window (map slot_of piles ++ map slot_of pack.slots) (omega (arith, low))
    (omega (
      arith,
      is.size,
      chest.size,
      length-map pack.slots slot_of,
      length-map piles slot_of,
      length-append (map slot_of piles) (map slot_of pack.slots),
    ))
    (all_joined SlotFits (map slot_of piles) (map slot_of pack.slots)
    (piles_fit piles chest.are_piles) (piles_fit pack.slots is.are_piles))

-- and what hangs on the cursor
pub window_clear : (pack : PackValue) (chest : Option (List Pile)) →
    IsPack pack.slots pack.cursor → ChestFits pack.window chest →
    AreClear (window_packets pack chest)
window_clear pack chest is fits = (
  window_items_clear pack chest is fits,
  (
    set_slot_clear (negsuc 0) (negsuc 0) pack.cursor
        (record { sfits = lit< tt }) (record { sfits = lit< tt }) is.is_pile,
    tt,
  ),
)
