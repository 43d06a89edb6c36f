-- The slots that a client has: those of its own pack, the window that it is shown, and its cursor.
use Rattle.std.specs.Prelude.{ℕ, ◌+◌, ◌-◌, nat_lt, List, Option, Some, None, slice_index_or}
use Rattle.std.specs.Prelude.{if◌then◌else◌}
use lib.IntN.{ℤ, pos, negsuc}
use Rattle.mc_slots.specs.declared.slot.Slot.{Slot}
use Rattle.mc_slots.specs.declared.slot.Slot.TheVariants as slots
use Rattle.mc_slots.specs.Chest.{chest_size}
use Rattle.mc_windows.specs.Pack.{pack_size}
use Rattle.mc_model.specs.Sight.{ChestWindow, Sight}

pub record WindowValue : Type 0 where
  pub window : Option ChestWindow
  pub pack : List Slot
  pub cursor : Slot

-- what a client sees, with these slots
abbrev pub holding : WindowValue → Sight → Sight
holding w p = record p { window = w.window; pack = w.pack; cursor = w.cursor }

-- the number of the shown window, 0 where none is shown
abbrev pub number_of : Option ChestWindow → ℕ
number_of None = 0
number_of (Some w) = w.number

-- a slot of the shown chest, an empty one where none is shown
abbrev pub chest_slot : Option ChestWindow → ℕ → Slot
chest_slot None i = slots.Empty
chest_slot (Some w) i = slice_index_or w.slots i slots.Empty

-- the slots that a client sees
abbrev pub window_of : Sight → WindowValue
window_of p = record { window = p.window; pack = p.pack; cursor = p.cursor }

-- a slot of window 0: 9 that are empty, and behind them those of the pack
abbrev pub own_slot : List Slot → ℕ → Option Slot
own_slot pack i =
    if nat_lt i 9 then Some slots.Empty
    else if nat_lt i (9 + pack_size) then Some (slice_index_or pack (i - 9) slots.Empty)
    else None

-- a slot of a chest's window: those of the chest, and behind them those of the pack
abbrev pub shown_slot : ChestWindow → List Slot → ℕ → Option Slot
shown_slot w pack i =
    if nat_lt i chest_size then Some (slice_index_or w.slots i slots.Empty)
    else if nat_lt i (chest_size + pack_size)
    then Some (slice_index_or pack (i - chest_size) slots.Empty)
    else None

abbrev pub slot_in : Option ChestWindow → List Slot → ℕ → Option Slot
slot_in None pack i = own_slot pack i
slot_in (Some w) pack i = shown_slot w pack i

-- a slot of the window that is shown, or of window 0 where none is; none where it has no such slot
abbrev pub open_slot : WindowValue → ℤ → Option Slot
open_slot w (pos i) = slot_in w.window w.pack i
open_slot w (negsuc i) = None
