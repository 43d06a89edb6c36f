use Rattle.std.proofs.Common.{List, sym, subst}
use Rattle.std.specs.Prelude.{None}
use Rattle.mc_told.specs.EntityFrames.{EntitiesValue, no_entities}
use Rattle.mc_loads.specs.ColumnFrames.{ColumnsValue, no_columns}
use Rattle.mc_flush.specs.declared.encoded_line.EncodedLine.{EncodedLine}
use Rattle.mc_flush.specs.Encoding.{AreFrames}
use Rattle.mc_flush.proofs.Encodings.{none_encoded}
use Rattle.mc_flush.proofs.encoded.Encoded.new.Goals as goal

pub returns-clause-frames : goal.returns-clause-frames
returns-clause-frames c = λ land list.
    let P : ColumnsValue → EntitiesValue → List EncodedLine → Type 0 = λ columns entities lines.
    AreFrames land list (record {
      players = None;
      loads = columns.loads;
      changes = columns.changes;
      entities = entities;
      lines = lines;
    }) in
    subst (λ columns. P columns c.new-2.result c.new-3.result) (sym c.new.ensures.is)
    (subst (λ entities. P no_columns entities c.new-3.result) (sym c.new-2.ensures.is)
    (subst (λ lines. P no_columns no_entities lines) (sym c.new-3.ensures) (none_encoded land list)))
