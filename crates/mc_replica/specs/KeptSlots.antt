-- How a row of slots is kept: not at all where all of them are empty.
use Rattle.std.specs.Prelude.{◌≡◌, ℕ, List, length, replicate, Option, Some, None}
use Rattle.std.specs.Prelude.{option_map, Vec}
use Rattle.std.specs.Global.{Global}
use Rattle.mc_slots.specs.declared.slot.Slot.{Slot}
use Rattle.mc_slots.specs.declared.slot.Slot.TheVariants as slots

-- the slots that are kept, if they are
abbrev pub rows_in : Option (Vec Slot Global) → Option (List Slot)
rows_in row = option_map (λ (slots : Vec Slot Global). slots.items) row

-- the slots that are kept, or so many empty ones
abbrev pub slots_in : ℕ → Option (List Slot) → List Slot
slots_in len (Some row) = row
slots_in len None = replicate len slots.Empty

-- as many as there are, and an empty slot to lend
pub record IsRow (len : ℕ) (row : Option (List Slot)) (lent : Slot) : Type 0 where
  pub sized : length (slots_in len row) ≡ len
  pub is_empty : lent ≡ slots.Empty
