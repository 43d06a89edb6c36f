use Rattle.std.proofs.Common.{ap, sym, subst, ◌∙◌}
use Rattle.mc_loads.specs.ColumnFrames.{ColumnsValue}
use Rattle.mc_loads.specs.ColumnFrames as columns
use Rattle.mc_flush.specs.Encoding.{AreFrames, EncodedValue, columns_in}
use Rattle.mc_flush.proofs.Encodings.{columns_added, load_is, with_columns}
use Rattle.mc_flush.proofs.encoded.Encoded.add_load.Goals as goal

pub returns-clause-ok : goal.returns-clause-ok
returns-clause-ok g c =
    let land = c.args.land.now in
    let place = c.args.place.now in
    let inside = c.self.inside in
    ap (λ (v : ColumnsValue). record {
      players = inside.players;
      loads = v.loads;
      changes = v.changes;
      entities = inside.entities;
      lines = inside.lines;
    }) c.in_ok-add_load.ensures.ok
    ∙ ap (λ (e : EncodedValue). with_columns e (columns.with_load (columns_in e) land place))
    c.self.view_is
    ∙ load_is c.args.self.now land place

pub returns-clause-frames : goal.returns-clause-frames
returns-clause-frames g c = λ list frames.
    let land = c.args.land.now in
    let inside = c.self.inside in
    columns_added land list (record {
      players = inside.players;
      loads = inside.columns.loads;
      changes = inside.columns.changes;
      entities = inside.entities;
      lines = inside.lines;
    }) c.add_load.new.self (subst (AreFrames land list) (sym c.self.view_is) frames)
    c.add_load.ensures.frames

pub returns-in_err-add_load-clause-frames : goal.returns-in_err-add_load-clause-frames
returns-in_err-add_load-clause-frames g c = λ list frames.
    let land = c.args.land.now in
    let inside = c.self.inside in
    columns_added land list (record {
      players = inside.players;
      loads = inside.columns.loads;
      changes = inside.columns.changes;
      entities = inside.entities;
      lines = inside.lines;
    }) c.add_load.new.self (subst (AreFrames land list) (sym c.self.view_is) frames)
    c.add_load.ensures.frames
