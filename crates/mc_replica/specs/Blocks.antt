-- The state of a cell that a client has.
use Rattle.std.specs.Prelude.{ℕ, nat_lt, slice_index, Option, None, option_map}
use Rattle.std.specs.Prelude.{if◌then◌else◌}
use Rattle.std.specs.FinMap.{get}
use lib.IntN.{ℤ, pos, negsuc}
use Rattle.mc_column.specs.Cells.{ColumnValue}
use Rattle.mc_land.specs.Places.{Key, key_of}
use Rattle.mc_model.specs.Replica.{Columns}

abbrev pub state_at : Columns → Key → Option ℕ
state_at columns key =
    option_map (λ (column : ColumnValue). slice_index column.states key.1) (get columns key.0)

-- None exactly where the column is not there, or y is not from 0 to 255
abbrev pub block_in : Columns → ℤ → ℤ → ℤ → Option ℕ
block_in columns x (pos y) z =
    if nat_lt y 256 then state_at columns (key_of x y z) else None
block_in columns x (negsuc y) z = None
