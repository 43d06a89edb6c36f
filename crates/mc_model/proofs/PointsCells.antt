-- What the packets of changed cells make of what a client sees: each column that stays is as it is
-- wanted.
use Rattle.std.proofs.Common.{◌≡◌, ℕ, zero, suc, ◌+◌, ◌<◌, ◌≤◌, false, List, [], ◌∷◌, map, length}
use Rattle.std.proofs.Common.{refl, ap, ◌∙◌, arith}
use Rattle.std.specs.Prelude.{slice_index, slice_set}
use Rattle.std.specs.List.{filter, fold, range_with_len, AllByRecursion}
use Rattle.std.specs.FinMap.{insert}
use Rattle.std.proofs.lemmas.Bool.Decides.{eqb_tells, nat_tests}
use Rattle.std.proofs.lemmas.List.{get_or-set_same, get_or-set_other, length-set}
use Rattle.std.proofs.lemmas.Grind.{same_number_lists}
use lib.IntN.{pos}
use Rattle.mc_column.specs.Cells.{ColumnValue, with_state}
use Rattle.mc_land.specs.Places.{Place, key_of, x_of, y_of, z_of}
use Rattle.mc_land.specs.Ready.{has_changed}
use Rattle.mc_land.proofs.Orders.{places_total, exact_places}
use Rattle.mc_model.specs.Sight.{Sight}
use Rattle.mc_model.specs.Replica.{Columns, low_state, with_cell, changed_at, record_index}
use Rattle.mc_model.specs.Replica.{with_records}
use Rattle.mc_model.specs.Delta.{cell_record}
use Rattle.mc_model.proofs.Maps.Sorted.{altered_put}
use Rattle.mc_model.proofs.FitsCells.{CellFits}

-- ---- states, one after another

-- states with those of another list at some indices
abbrev pub set_cells : List ℕ → List ℕ → List ℕ → List ℕ
set_cells new states indices =
    fold (λ (l : List ℕ) (i : ℕ). slice_set l i (slice_index new i)) states indices

-- up to an index the states are the new ones, and from there on the old ones
pub record IsFilled (old new states : List ℕ) (a : ℕ) : Type 0 where
  pub done : (j : ℕ) → j < a → slice_index states j ≡ slice_index new j
  pub rest : (j : ℕ) → a ≤ j → slice_index states j ≡ slice_index old j
  pub size : length states ≡ length old

-- one more index
filled_next : (old new states : List ℕ) (a : ℕ) → a < length old → IsFilled old new states a →
    IsFilled old new (slice_set states a (slice_index new a)) (a + 1)
filled_next old new states a less f =
    grind (arith, nat_tests, eqb_tells, get_or-set_same, get_or-set_other, length-set)

-- one that does not differ
filled_kept : (old new states : List ℕ) (a : ℕ) → has_changed old new a ≡ false →
    IsFilled old new states a → IsFilled old new states (a + 1)
filled_kept old new states a e f = grind (arith, nat_tests)

-- those of a range that differ
filled : (old new : List ℕ) (n a b : ℕ) (states : List ℕ) → a + n ≡ b → b ≤ length old →
    IsFilled old new states a →
    IsFilled old new (set_cells new states (filter (has_changed old new) (range_with_len a n))) b
filled old new zero a b states e within f = grind (arith, nat_tests)
filled old new (suc n) a b states e within f =
    grind (arith, nat_tests, filled old new n (a + 1) b, filled_next, filled_kept)

-- once all that differ are set, the states are the new ones
pub all_set : (old new : List ℕ) (n : ℕ) → length old ≡ n → length new ≡ n →
    set_cells new old (filter (has_changed old new) (range_with_len 0 n)) ≡ new
all_set old new n old_size new_size = grind (arith, nat_tests, filled, same_number_lists)

-- a cell's place and index are those that its numbers were made of
pub key_back : (place : Place) (i : ℕ) → i < 65536 →
    key_of (x_of (place, i)) (y_of (place, i)) (z_of (place, i)) ≡ (place, i)
key_back place i less = grind (arith, nat_tests)

-- the index that a packet about several cells means
record_back : (states : List ℕ) (i : ℕ) → record_index (cell_record states i) ≡ i
record_back states i = omega arith

-- and the state
pub state_back : (state : ℕ) → state < 65536 → low_state (pos state) ≡ state
state_back state small = omega (arith, small)

-- ---- one column

-- with a column at a place
abbrev pub with_column : Sight → Columns → Place → ColumnValue → Sight
with_column s m place column = record s { columns = insert m place column }

-- a cell of a column that was put in is set there
cell_set : (m : Columns) (place : Place) (column : ColumnValue) (i state : ℕ) → state < 65536 →
    with_cell (insert m place column) (place, i) (pos state)
    ≡ insert m place (with_state column i state)
cell_set m place column i state small =
    altered_put places_total exact_places m place column
    (λ (c : ColumnValue). with_state c i (low_state (pos state)))
    ∙ ap (λ (state : ℕ). insert m place (with_state column i state)) (state_back state small)

-- several are
pub records_set : (m : Columns) (place : Place) (column : ColumnValue) (states indices : List ℕ) →
    AllByRecursion (CellFits states) indices →
    with_records (insert m place column) place (map (cell_record states) indices)
    ≡ insert m place (record column { states = set_cells states column.states indices })
records_set m place column states [] f = refl
records_set m place column states (i ∷ indices) f =
    ap (λ (columns : Columns). with_records columns place (map (cell_record states) indices))
    (ap (λ (k : ℕ). with_cell (insert m place column) (place, k) (pos (slice_index states i)))
    (record_back states i) ∙ cell_set m place column i (slice_index states i) f.0.state)
    ∙ records_set m place (with_state column i (slice_index states i)) states indices f.1

-- one is
pub change_set : (m : Columns) (place : Place) (column : ColumnValue) (i state : ℕ) → i < 65536 →
    state < 65536 →
    changed_at (insert m place column) (x_of (place, i)) (pos (y_of (place, i))) (z_of (place, i))
    (pos state)
    ≡ insert m place (with_state column i state)
change_set m place column i state less small = grind (arith, nat_tests, key_back, cell_set)
