-- The cells of a column by their indices, and the packets of some of them.
use Rattle.std.proofs.Common.{◌≡◌, ℕ, ◌<◌, ◌≤◌, List, [], ◌∷◌, ◌++◌, map, length, sym, ap}
use Rattle.std.proofs.Common.{◌∙◌, arith, append_assoc}
use Rattle.std.specs.Prelude.{nat_lt, slice_index, true, unsigned_abs, if◌then◌else◌}
use Rattle.std.specs.List.{AllByRecursion}
use Rattle.std.proofs.lemmas.Bool.{lt-ltb}
use Rattle.std.proofs.lemmas.Int.{ints, to_z-of_z}
use Rattle.std.proofs.lemmas.List.{length-map}
use Rattle.std.proofs.lemmas.List.FromFn.{get_or-map-range_with_len}
use Rattle.std.proofs.lemmas.Bool.Decides.{nat_tests}
use lib.IntN.{ℤ, pos, negsuc, neg_ℤ}
use lib.Signed.{◌≤ℤ◌}
use mir.Val.{to_z, of_z}
use Rattle.std.specs.Int.{w32}
use Rattle.mc_land.specs.declared.ready.Touched.{Touched}
use Rattle.mc_packets.specs.declared.record.Record.{Record}
use Rattle.mc_column.specs.Sizes.{cells}
use Rattle.mc_column.specs.SizesLaws.{cells-is}
use Rattle.mc_fields.specs.declared.position.Cell.{Cell}
use Rattle.mc_land.specs.Places.{Place, IsPlace, key_of, x_of, y_of, z_of}
use Rattle.mc_land.specs.declared.places.TheConstants.{COLUMN_BORDER}
use Rattle.mc_land.specs.Land.{LandValue, block, dirty_in, state_at, states_of}
use Rattle.mc_land.specs.Ready.{touched_cell}
use Rattle.mc_packets.specs.declared.down.Down.TheVariants.{MultiChange}
use Rattle.mc_model.specs.Delta.{cell_at, cell_packets, cell_record, differing}
use Rattle.mc_model.proofs.FitsCells.{CellFits, cells_clear, differing_few}
use Rattle.mc_model.proofs.FitsChunk.{IsNear}
use Rattle.mc_model.proofs.PointsCells.{key_back}
use Rattle.mc_loads.specs.Cells.{AreCells, IsCell, indices, states_at}
use Rattle.mc_sending.specs.Sending.{AreClear}

-- ---- where a cell is

-- the block there is the state of its index
pub state_is : (land : LandValue) (place : Place) (i state : ℕ) (cell : Cell) → i < 65536 →
    cell ≡ cell_at place i → state ≡ block land cell.x cell.y cell.z →
    state ≡ slice_index (states_at land place) i
state_is land place i state cell less at is =
    let f : ℕ → ℕ = λ j. state_at land.terrain land.edits (place, j) in
    let low : nat_lt (y_of (place, i)) 256 ≡ true = lt-ltb _ _ (omega (arith, less)) in
    is ∙ ap (λ (c : Cell). block land c.x c.y c.z) at
    ∙ ap (λ b. if b then state_at land.terrain land.edits
    (key_of (x_of (place, i)) (y_of (place, i)) (z_of (place, i))) else 0) low
    ∙ ap (state_at land.terrain land.edits) (key_back place i less)
    ∙ sym (get_or-map-range_with_len f 0 cells i i 0 (omega (arith, less, cells-is)) (omega arith))

pub is_cell : (states : List ℕ) (i state : ℕ) → i < 65536 → state < 65536 →
    state ≡ slice_index states i → IsCell states i
is_cell states i state less small is = record { index = less; state = omega (arith, small, is) }

-- ---- packets of some

near_place : (place : Place) → IsPlace place → IsNear place
near_place place at = record {
  x = size place.0 at.cx_low at.cx_high;
  z = size place.1 at.cz_low at.cz_high;
}
  where
    size : (z : ℤ) → neg_ℤ (pos COLUMN_BORDER) ≤ℤ z → z ≤ℤ pos COLUMN_BORDER →
        unsigned_abs z ≤ COLUMN_BORDER
    size (pos n) low high = omega (arith, ints, high)
    size (negsuc n) low high = omega (arith, ints, low)

fit_cells : (states is : List ℕ) → AreCells states is → AllByRecursion (CellFits states) is
fit_cells states [] f = tt
fit_cells states (i ∷ is) f =
    (record { index = f.0.index; state = f.0.state }, fit_cells states is f.1)

pub touched_clear : (place : Place) (states is : List ℕ) → IsPlace place → length is ≤ 65536 →
    AreCells states is → AreClear (cell_packets place states is)
touched_clear place states is at few f =
    cells_clear place states is (near_place place at) few (fit_cells states is f)

-- of several there is one packet
pub several_packets : (place : Place) (states is : List ℕ) → 2 ≤ length is →
    cell_packets place states is ≡ MultiChange place.0 place.1 (map (cell_record states) is) ∷ []
several_packets place states is two = grind (arith, nat_tests)

-- ---- the records of several

pub record_next : (f : ℕ → Record) (now new : List Record) (left rest : List Touched) (t : Touched)
    (r : Record) (total : List Record) → left ≡ t ∷ rest → r ≡ f t.index → new ≡ now ++ r ∷ [] →
    now ++ map f (indices left) ≡ total → new ++ map f (indices rest) ≡ total
record_next f now new left rest t r total is made put all =
    ap (λ (rs : List Record). rs ++ map f (indices rest)) put
    ∙ append_assoc now (r ∷ []) (map f (indices rest))
    ∙ ap (λ (q : Record). now ++ q ∷ map f (indices rest)) made
    ∙ ap (λ (ts : List Touched). now ++ map f (indices ts)) (sym is) ∙ all

-- a state as a packet's number
pub number_state : (z : ℤ) (state is : ℕ) → state < 65536 → z ≡ pos state → state ≡ is →
    to_z w32 (of_z w32 z) ≡ pos is
number_state z state is small e same =
    ap (λ (y : ℤ). to_z w32 (of_z w32 y)) (e ∙ ap pos same)
    ∙ to_z-of_z w32 (pos is) (record { sfits = omega (arith, small, same) })

-- ---- those that changed

-- they are not too many
pub dirty_few : (land : LandValue) (place : Place) → length (dirty_in land place) ≤ 65536
dirty_few land place =
    let was = states_of land.terrain land.settled place in
    let now = states_at land place in
    omega (arith, differing_few was now, length-map (differing was now) (touched_cell was))
