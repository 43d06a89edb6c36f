use Rattle.std.proofs.Common.{◌*◌, ◌++◌, length, List, arith, ap, ◌∙◌}
use Rattle.std.proofs.lemmas.Result.{on_ok_weaker}
use Rattle.mc_frame.specs.Kept.{joined}
use Rattle.mc_column.specs.Sizes.{cells}
use Rattle.mc_land.specs.Places.{Place}
use Rattle.mc_sending.specs.Sending.{play_bytes}
use Rattle.mc_loads.specs.Columns.{load_packets}
use Rattle.mc_loads.specs.ColumnFrames.{unencoded}
use Rattle.mc_loads.proofs.ColumnFrames.{columns_put}
use Rattle.mc_loads.proofs.columns_view.ColumnsView.push_columns.Goals as goal

pub returns-clause-sent : goal.returns-clause-sent
returns-clause-sent g c =
    let v = c.args.self.now in
    let was = c.args.self.now.was in
    on_ok_weaker c.push_changed.result
    (λ sent. columns_put v.land.now was v.view (joined c.args.out.now.items)
    (joined c.push_left.new.out.items) (joined c.push_loads.new.out.items)
    (joined c.push_changed.new.out.items) c.in_ok-push_left.ensures
    (c.in_ok-push_loads.ensures.sent ∙ ap (λ (places : List Place).
    joined c.push_left.new.out.items ++ play_bytes (load_packets v.land.now places))
    c.entered.ensures)
    sent) c.push_changed.ensures.sent

pub returns-clause-cost : goal.returns-clause-cost
returns-clause-cost g c =
    let v = c.args.self.now in
    on_ok_weaker c.push_changed.result (λ cost. omega (
      arith,
      c.in_ok-push_loads.ensures.cost,
      cost,
      ap (λ (places : List Place). cells * length (unencoded v.encoded.now places))
          c.entered.ensures,
    )) c.push_changed.ensures.cost
