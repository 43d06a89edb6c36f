-- Several changes of cells of one column.
use Rattle.std.specs.Prelude.{List}
use Rattle.std.specs.List.{fold}
use Rattle.mc_column.specs.Cells.{ColumnValue, with_state}
use Rattle.mc_packets.specs.declared.record.Record.{Record}
use Rattle.mc_model.specs.Replica.{low_state, record_index}

abbrev pub recorded : List Record → ColumnValue → ColumnValue
recorded records column =
    fold (λ (c : ColumnValue) (r : Record). with_state c (record_index r) (low_state r.state))
    column records
