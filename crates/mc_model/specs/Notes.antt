-- What is noted for a client between two ticks, and what it is sent for that at the next beside the
-- difference. Rules of this project.
use Rattle.std.specs.Prelude.{Bool, false, List, [], ℕ, true, ◌++◌, if◌then◌else◌, ◌&&◌}
use Rattle.std.specs.Prelude.{int_le, ◌∷◌, map, Option, Some, None, replicate}
use Rattle.std.specs.Int.{cast_signed, w8}
use Rattle.std.specs.List.{filter}
use Rattle.std.specs.FinMap.{FinMap}
use lib.IntN.{pos, negsuc}
use Rattle.mc_fields.specs.declared.position.Cell.{Cell}
use Rattle.mc_fields.specs.declared.position.Spot.{Spot}
use Rattle.mc_slots.specs.declared.slot.Slot.TheVariants as slots
use Rattle.mc_slots.specs.declared.pile.Pile.{Pile}
use Rattle.mc_slots.specs.Pile.{slot_of}
use Rattle.mc_packets.specs.declared.down.Down.{Down}
use Rattle.mc_packets.specs.declared.down.Down.TheVariants.{Change, Confirm, WindowItems}
use Rattle.mc_land.specs.declared.terrain.Terrain.{Terrain}
use Rattle.mc_land.specs.Places.{Place, key_cmp, place_of}
use Rattle.mc_windows.specs.Pack.{PackValue}
use Rattle.mc_model.specs.declared.notes.Answered.{Answered}
use Rattle.mc_model.specs.declared.notes.Notes.{Notes}
use Rattle.mc_model.specs.Delta.{cursor_packet}
use Rattle.mc_model.specs.Things.{state_of_cell}
use Rattle.mc_model.specs.Opening.{placing}

abbrev pub no_notes : Notes
no_notes = record { confirms = []; cells = []; placing = false; resend = false }

-- the window that it is shown is to be sent to it again
abbrev pub again : Notes → Notes
again notes = record notes { resend = true }

-- and cells
abbrev pub with_cells : List Cell → Notes → Notes
with_cells cells notes = record notes { cells = notes.cells ++ cells }

-- and the answer to a click
abbrev pub with_answer : Answered → Notes → Notes
with_answer answered notes = record notes { confirms = notes.confirms ++ answered ∷ [] }

-- the answer to a click, with the byte of its window as it came
abbrev pub confirm_packet : Answered → Down
confirm_packet c = Confirm (cast_signed w8 c.window) c.number c.accepted

-- All slots of the window that is shown: of window 0 the first nine are empty, of a chest's the
-- first 27 are what lies in it, and behind them are those of the pack.
abbrev pub window_items : PackValue → Option (List Pile) → Down
window_items pack None = WindowItems 0 (replicate 9 slots.Empty ++ map slot_of pack.slots)
window_items pack (Some piles) =
    WindowItems pack.window (map slot_of piles ++ map slot_of pack.slots)

-- and then what hangs on the cursor
abbrev pub window_packets : PackValue → Option (List Pile) → List Down
window_packets pack chest = window_items pack chest ∷ cursor_packet (slot_of pack.cursor) ∷ []

-- what was noted beside answers and cells, of a player that is at a spot, carries a pack and may be
-- shown a chest
abbrev pub notes_of : Notes → Spot → PackValue → Option (List Pile) → List Down
notes_of notes spot pack chest =
    (if notes.placing then placing spot ∷ [] else [])
    ++ (if notes.resend then window_packets pack chest else [])

-- a noted cell that has a position is sent where its column is in view
abbrev pub is_sent : (Place → Bool) → Cell → Bool
is_sent seen cell =
    int_le (negsuc 2047) cell.y
    && (int_le cell.y (pos 2047) && seen (place_of cell.x cell.z))

-- as it is, in a land of a terrain where some cells are changed
abbrev pub cell_packet : Terrain → FinMap key_cmp ℕ → Cell → Down
cell_packet terrain edits cell =
    Change cell (pos (state_of_cell terrain edits cell.x cell.y cell.z))

abbrev pub noted_packets : Terrain → FinMap key_cmp ℕ → (Place → Bool) → List Cell → List Down
noted_packets terrain edits seen cells =
    map (cell_packet terrain edits) (filter (is_sent seen) cells)
