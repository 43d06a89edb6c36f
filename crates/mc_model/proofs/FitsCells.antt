-- The packets of changed cells fit, of places near enough and of states of 16 bits.
use Rattle.std.proofs.Common.{◌≡◌, ℕ, ◌^◌, ◌<◌, ◌≤◌, List, ◌∷◌, map, length, lit<, arith}
use Rattle.std.proofs.Common.{[]}
use Rattle.std.specs.Prelude.{unsigned_abs, slice_index}
use Rattle.std.specs.Int.{w32}
use Rattle.std.specs.List.{All, AllByRecursion, range_with_len}
use Rattle.std.proofs.lemmas.List.FromFn.{length-range_with_len}
use Rattle.std.proofs.lemmas.List.{length-map}
use Rattle.std.proofs.lemmas.Bool.Decides.{nat_tests}
use lib.IntN.{ℤ, pos, ◌+ℤ◌, ◌*ℤ◌}
use mir.Val.{SFits}
use Rattle.mc_fields.specs.declared.position.Cell.{Cell}
use Rattle.mc_fields.specs.Position.{FitsHalf, FitsCell, pack}
use Rattle.mc_column.specs.Sizes.{cells}
use Rattle.mc_column.specs.SizesLaws.{cells-is}
use Rattle.mc_packets.specs.declared.record.Record.{Record}
use Rattle.mc_packets.specs.declared.down.Down.TheVariants.{MultiChange, Change}
use Rattle.mc_packets.specs.Fields.{cell_change}
use Rattle.mc_land.specs.declared.places.TheConstants.{COLUMN_BORDER}
use Rattle.mc_land.specs.Places.{Place}
use Rattle.mc_land.specs.Ready.{has_changed}
use Rattle.mc_model.specs.Packets.{of_play, for_play}
use Rattle.mc_model.specs.Delta.{cell_at, cell_record, cell_packets, differing}
use Rattle.mc_model.proofs.Decodes.{IsClear, play_clear}
use Rattle.mc_model.proofs.AllFacts.{all_mapped, all_filtered, few_filtered, all_range}
use Rattle.mc_model.proofs.FitsSize.{number_fits, fields, all_few}
use Rattle.mc_model.proofs.FitsList.{AreClear}
use Rattle.mc_model.proofs.FitsChunk.{IsNear}

-- a cell of a column, with a state that a packet can carry
pub record CellFits (states : List ℕ) (i : ℕ) : Type 0 where
  pub index : i < 65536
  pub state : slice_index states i < 65536

-- ---- one cell

-- a cell's number, by that of its column
pub number_near : (c : ℤ) (i : ℕ) → unsigned_abs c ≤ COLUMN_BORDER → i < 16
    → FitsHalf (2 ^ 25) (c *ℤ pos 16 +ℤ pos i)
number_near c i near small = grind (arith, nat_tests)

-- a position can carry a cell of a near place
cell_fits : (place : Place) (i : ℕ) → IsNear place → i < 65536 → FitsCell (cell_at place i)
cell_fits place i near index = grind (arith, nat_tests, number_near)

-- its bits are a word
pack_fits : (cell : Cell) → FitsCell cell → pack cell < 2 ^ 64
pack_fits cell fits = grind (arith, nat_tests)

-- a VarInt can carry a state
state_fits : (state : ℕ) → state < 65536 → SFits w32 (pos state)
state_fits state small = record { sfits = omega (arith, small) }

-- Change
pub change_clear : (cell : Cell) (state : ℕ) → FitsCell cell → state < 65536
    → IsClear for_play (of_play (Change cell (pos state)))
change_clear cell state at small =
    let at_state = state_fits state small in
    play_clear (Change cell (pos state)) (search (fields, pack_fits cell at, at_state)) (lit< tt)

-- ---- several

-- a cell of a column has a spelling
record_fits : (states : List ℕ) (i : ℕ) → CellFits states i →
    cell_change.fits (cell_record states i)
record_fits states i f =
    let at_state = state_fits (slice_index states i) f.state in
    search (fields, f.index, at_state)

-- MultiChange
records_clear : (place : Place) (records : List Record) → IsNear place →
    length records ≤ 65536 → AllByRecursion cell_change.fits records
    → IsClear for_play (of_play (MultiChange place.0 place.1 records))
records_clear place records near few f =
    let counted : SFits w32 (pos (length records)) = record { sfits = omega (arith, few) } in
    let x = number_fits place.0 (omega (arith, near.x)) in
    let z = number_fits place.1 (omega (arith, near.z)) in
    let le = all_few cell_change.fits cell_change.most 7 (λ r fits. omega arith) records f in
    play_clear (MultiChange place.0 place.1 records) (search fields) (omega (arith, le, few))

-- the changed cells of a column
pub cells_clear : (place : Place) (states indices : List ℕ) → IsNear place →
    length indices ≤ 65536 → AllByRecursion (CellFits states) indices
    → AreClear (cell_packets place states indices)
cells_clear place states [] near few f = tt
cells_clear place states (i ∷ []) near few f = (
  change_clear (cell_at place i) (slice_index states i) (cell_fits place i near f.0.index)
      f.0.state,
  tt,
)
cells_clear place states (i ∷ j ∷ later) near few f = (
  records_clear place (map (cell_record states) (i ∷ j ∷ later)) near
      (omega (arith, few, length-map (i ∷ j ∷ later) (cell_record states)))
      (all_mapped (CellFits states) cell_change.fits (cell_record states) (record_fits states)
      (i ∷ j ∷ later) f),
  tt,
)

-- ---- the cells of a column that differ

-- each has a state that a packet can carry
pub differing_fit : (old new : List ℕ) → length new ≡ cells →
    All (λ state. state < 65536) new → AllByRecursion (CellFits new) (differing old new)
differing_fit old new size small =
    all_filtered (CellFits new) (has_changed old new) (range_with_len 0 cells)
    (all_range (CellFits new) 0 cells (λ i less. record {
      index = omega (arith, less, cells-is);
      state = small i 0 (omega (arith, less, size));
    }))

-- and they are not too many
pub differing_few : (old new : List ℕ) → length (differing old new) ≤ 65536
differing_few old new = grind (arith, nat_tests, cells-is, few_filtered, length-range_with_len)
