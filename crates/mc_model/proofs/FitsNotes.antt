-- The packets of answers to clicks fit, and those of noted cells: what is sent of them has a
-- position, and a state of 16 bits.
use Rattle.std.proofs.Common.{◌≡◌, ℕ, ◌+◌, ◌^◌, ◌<◌, ◌≤◌, Bool, true, List, [], ◌∷◌, lit<, map}
use Rattle.std.proofs.Common.{arith, rules}
use Rattle.std.specs.Prelude.{int_le, unsigned_abs}
use Rattle.std.specs.Int.{w8, w16}
use Rattle.std.specs.List.{AllByRecursion}
use Rattle.std.proofs.Math.Facts.{sfits_to_z}
use Rattle.std.specs.FinMap.{FinMap}
use Rattle.std.proofs.lemmas.Bool.{leb-true}
use Rattle.std.proofs.lemmas.Int.{ints}
use Rattle.std.proofs.lemmas.Bool.Decides.{nat_tests}
use lib.IntN.{ℤ, pos, negsuc, ◌-ℤ◌}
use mir.Val.{SFits}
use Rattle.mc_fields.specs.declared.position.Cell.{Cell}
use Rattle.mc_fields.specs.Position.{FitsHalf, FitsCell}
use Rattle.mc_packets.specs.declared.down.Down.{Down}
use Rattle.mc_land.specs.declared.terrain.Terrain.{Terrain}
use Rattle.mc_land.specs.Places.{Place, key_cmp, column_number}
use Rattle.mc_view.specs.declared.view_set.TheConstants.{MIDDLE_BORDER}
use Rattle.mc_view.specs.Views.{is_in_view}
use Rattle.mc_view.proofs.Near.{near_both}
use Rattle.mc_model.specs.declared.notes.Answered.{Answered}
use Rattle.mc_model.specs.declared.notes.Notes.{Notes}
use Rattle.mc_model.specs.Packets.{of_play, for_play}
use Rattle.mc_model.specs.Things.{state_of_cell}
use Rattle.mc_model.specs.Notes.{cell_packet, confirm_packet, is_sent, no_notes, noted_packets}
use Rattle.mc_model.proofs.AllFacts.{all_mapped}
use Rattle.mc_model.proofs.Decodes.{IsClear, play_clear}
use Rattle.mc_model.proofs.FitsText.{both_true}
use Rattle.mc_model.proofs.FitsList.{AreClear}
use Rattle.mc_model.proofs.FitsSize.{fields}
use Rattle.mc_model.proofs.FitsCells.{change_clear}

-- ---- answers to clicks

-- one in a window whose number is a byte, to a click whose number has 16 bits
pub record ConfirmFits (c : Answered) : Type 0 where
  pub window : c.window < 256
  pub number : SFits w16 c.number

-- its packet
pub confirm_clear : (c : Answered) → ConfirmFits c →
    IsClear for_play (of_play (confirm_packet c))
confirm_clear c f =
    let window = sfits_to_z {w = w8} {n = c.window} (record { fits = f.window }) in
    play_clear (confirm_packet c) (search (fields, window, f.number)) (lit< tt)

-- those of all
pub confirms_clear : (confirms : List Answered) → AllByRecursion ConfirmFits confirms →
    AreClear (map confirm_packet confirms)
confirms_clear confirms fit = all_mapped ConfirmFits
    (λ (packet : Down). IsClear for_play (of_play packet)) confirm_packet confirm_clear confirms fit

-- ---- positions

-- a number that is near one that is not far is not far
column_small : (c middle : ℤ) (d : ℕ) → unsigned_abs middle ≤ MIDDLE_BORDER + 1 → d ≤ 8 →
    unsigned_abs (c -ℤ middle) ≤ d → unsigned_abs c ≤ MIDDLE_BORDER + 9
column_small c middle d small few near = grind (arith, nat_tests)

-- so a position can carry the numbers of cells in such a column
side_fits : (v : ℤ) → unsigned_abs (column_number v) ≤ MIDDLE_BORDER + 9 → FitsHalf (2 ^ 25) v
side_fits (pos n) small = omega (arith, ints, small)
side_fits (negsuc n) small = omega (arith, ints, small)

-- and how high a cell is that is sent
height_fits : (y : ℤ) → int_le (negsuc 2047) y ≡ true → int_le y (pos 2047) ≡ true →
    FitsHalf (2 ^ 11) y
height_fits (pos n) low high = let le = leb-true n 2047 high in omega (arith, le)
height_fits (negsuc n) low high = let le = leb-true n 2047 low in omega (arith, le)

-- a cell that is sent where a view is seen has a position
pub sent_fits : (middle : Place) (d : ℕ) (cell : Cell) → unsigned_abs middle.0 ≤ MIDDLE_BORDER + 1 →
    unsigned_abs middle.1 ≤ MIDDLE_BORDER + 1 → d ≤ 8 → is_sent (is_in_view middle d) cell ≡ true →
    FitsCell cell
sent_fits middle d cell at_x at_z few sent =
    grind (arith, nat_tests, both_true, column_small, height_fits, near_both, side_fits)

-- ---- packets

-- the packet of a cell that has a position, and a state that a packet can carry
pub noted_packet_clear : (terrain : Terrain) (edits : FinMap key_cmp ℕ) (cell : Cell) →
    FitsCell cell → state_of_cell terrain edits cell.x cell.y cell.z < 65536 →
    IsClear for_play (of_play (cell_packet terrain edits cell))
noted_packet_clear terrain edits cell at small = grind (arith, nat_tests, change_clear)

-- those of all that are sent
pub noted_packets_clear : (terrain : Terrain) (edits : FinMap key_cmp ℕ) (seen : Place → Bool) →
    ((cell : Cell) → is_sent seen cell ≡ true → FitsCell cell) →
    ((cell : Cell) → state_of_cell terrain edits cell.x cell.y cell.z < 65536) →
    (cells : List Cell) → AreClear (noted_packets terrain edits seen cells)
noted_packets_clear terrain edits seen fit small [] = tt
noted_packets_clear terrain edits seen fit small (cell ∷ cells) =
    search (arith, noted_packet_clear, noted_packets_clear terrain edits seen fit small cells)

-- ---- all that is noted

-- What is noted for a client, so that packets can tell it: the answers to clicks. They can tell
-- whatever cells are noted, since one without a position is not sent. What is asked of a field of
-- `Notes` is part of this.
abbrev pub NotesFit : Notes → Type 0
NotesFit notes = AllByRecursion ConfirmFits notes.confirms

pub no_notes_fit : NotesFit no_notes
no_notes_fit = search rules
