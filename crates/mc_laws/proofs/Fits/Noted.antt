-- The packets of noted cells change nothing of what a client sees that sees the game as it is.
use Rattle.std.proofs.Common.{◌≡◌, ℕ, ◌<◌, true, false, cond, List, [], ◌∷◌, Option, Some}
use Rattle.std.proofs.Common.{None, refl, sym, ap, subst, ◌∙◌, ltb-true, arith}
use Rattle.std.proofs.lemmas.Bool.Decides.{nat_tests}
use Rattle.std.specs.Prelude.{nat_lt, slice_index}
use Rattle.std.specs.List.{filter}
use Rattle.std.specs.FinMap.{get, insert}
use Rattle.std.proofs.lemmas.List.{set-get_or}
use Rattle.std.proofs.lemmas.List.FromFn.{get_or-map-range_with_len}
use lib.IntN.{ℤ, pos, negsuc}
use Rattle.mc_fields.specs.declared.position.Cell.{Cell}
use Rattle.mc_column.specs.SizesLaws.{cells-is}
use Rattle.mc_column.specs.Cells.{ColumnValue, with_state}
use Rattle.mc_land.specs.Places.{Place, Key, key_of}
use Rattle.mc_land.specs.Land.{state_at}
use Rattle.mc_land.proofs.Orders.{places_total, exact_places}
use Rattle.mc_model.specs.declared.player.Player.{Player}
use Rattle.mc_model.specs.Sight.{Sight}
use Rattle.mc_model.specs.Replica.{Columns, altered_from, apply, changed_at, low_state, seeing}
use Rattle.mc_model.specs.Replica.{with_cell}
use Rattle.mc_model.specs.Delta.{IsTold}
use Rattle.mc_model.specs.Things.{state_of_cell}
use Rattle.mc_model.specs.Notes.{cell_packet, is_sent, noted_packets}
use Rattle.mc_model.specs.Game.{Game, column_in, sees}
use Rattle.mc_model.specs.Showing.{sight_of}
use Rattle.mc_model.proofs.Maps.Sorted.{put_there}
use Rattle.mc_model.proofs.PointsCells.{state_back}
use Rattle.mc_laws.proofs.Leading.{Leads, mapped_keep}
use Rattle.mc_laws.proofs.Fits.Sights.{shown_column}

-- ---- one cell

-- the state of a cell of a column of the game
column_state : (g : Game) (place : Place) (i : ℕ) → i < 65536 →
    slice_index (column_in g place).states i ≡ state_at g.settings.terrain g.edits (place, i)
column_state g place i less = grind (arith, nat_tests, get_or-map-range_with_len, cells-is)

-- set again, it is the same column
column_same : (g : Game) (place : Place) (i : ℕ) → i < 65536 →
    with_state (column_in g place) i (state_at g.settings.terrain g.edits (place, i))
    ≡ column_in g place
column_same g place i less = grind (arith, nat_tests, column_state g place i less, set-get_or)

-- so the columns that are seen stay as they are, where a cell has the state that it has
cell_stays : (g : Game) (p : Player) (last : Sight) (key : Key) → key.1 < 65536 →
    IsTold (sight_of g p last) →
    with_cell (sight_of g p last).columns key (pos (state_at g.settings.terrain g.edits key))
    ≡ (sight_of g p last).columns
cell_stays g p last key less told = cases (get (sight_of g p last).columns key.0) refl
  where
    state : ℕ
    state = state_at g.settings.terrain g.edits key

    small : (column : ColumnValue) → get (sight_of g p last).columns key.0 ≡ Some column →
        state < 65536
    small column there =
        let is : slice_index column.states key.1 ≡ state =
        ap (λ (c : ColumnValue). slice_index c.states key.1)
        (shown_column g p last key.0 column there) ∙ column_state g key.0 key.1 less in
        let size = (told.sizes key.0 column there).states_are in
        subst (λ (n : ℕ). n < 65536) is
        (told.states key.0 column there key.1 0 (omega (arith, less, size, cells-is)))

    cases : (o : Option ColumnValue) → get (sight_of g p last).columns key.0 ≡ o →
        altered_from (sight_of g p last).columns key.0
        (λ (c : ColumnValue). with_state c key.1 (low_state (pos state))) o
        ≡ (sight_of g p last).columns
    cases None there = refl
    cases (Some column) there =
        let is = shown_column g p last key.0 column there in
        ap (insert (sight_of g p last).columns key.0)
        (ap (λ (c : ColumnValue). with_state c key.1 (low_state (pos state))) is
        ∙ ap (with_state (column_in g key.0) key.1) (state_back state (small column there))
        ∙ column_same g key.0 key.1 less ∙ sym is)
        ∙ put_there places_total exact_places (sight_of g p last).columns key.0 column there

-- an index in a column
index_small : (x : ℤ) (y : ℕ) (z : ℤ) → y < 256 → (key_of x y z).1 < 65536
index_small x y z low = grind (arith, nat_tests)

-- its packet
cell_keeps : (g : Game) (p : Player) (last : Sight) (cell : Cell) → IsTold (sight_of g p last) →
    Leads (sight_of g p last) (cell_packet g.settings.terrain g.edits cell ∷ []) (sight_of g p last)
unfolding apply
cell_keeps g p last cell told = record {
  is = ap (λ (m : Columns). seeing (record (sight_of g p last) { columns = m })) (changes cell.y);
}
  where
    state : ℤ → ℕ
    state y = state_of_cell g.settings.terrain g.edits cell.x y cell.z

    changes : (y : ℤ) → changed_at (sight_of g p last).columns cell.x y cell.z (pos (state y))
        ≡ (sight_of g p last).columns
    changes (pos y) =
        let key : Key = key_of cell.x y cell.z in
        elim (nat_lt y 256) as (λ b. nat_lt y 256 ≡ b →
        cond b (with_cell (sight_of g p last).columns key
        (pos (cond b (state_at g.settings.terrain g.edits key) 0))) (sight_of g p last).columns
        ≡ (sight_of g p last).columns) [
          | true ↦ λ t.
              cell_stays g p last key (index_small cell.x y cell.z (ltb-true y 256 t)) told
          | false ↦ λ t. refl
        ] refl
    changes (negsuc y) = refl

-- ---- all of them

-- their packets keep what is seen
pub cells_keep : (g : Game) (p : Player) (last : Sight) → IsTold (sight_of g p last) →
    (noted : List Cell) → Leads (sight_of g p last)
    (noted_packets g.settings.terrain g.edits (sees g p) noted) (sight_of g p last)
cells_keep g p last told noted =
    mapped_keep (sight_of g p last) (cell_packet g.settings.terrain g.edits)
    (λ cell. cell_keeps g p last cell told) (filter (is_sent (sees g p)) noted)
