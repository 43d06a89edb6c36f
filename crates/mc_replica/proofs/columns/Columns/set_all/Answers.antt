use Rattle.std.proofs.Common.{rules, ◌≡◌, ◌∙◌}
use Rattle.std.specs.FinMap.{insert}
use Rattle.mc_model.specs.Replica.{altered}
use Rattle.mc_replica.specs.Cells.{recorded}
use Rattle.mc_replica.proofs.Records.{recorded_at_once}
use Rattle.mc_replica.proofs.columns.Columns.set_all.Goals as goal

pub returns-in_ok-set_all : goal.returns-in_ok-set_all
returns-in_ok-set_all c =
    let columns = c.args.self.now in
    let place = c.args.place.now in
    let records = c.args.records.now in
    let put : insert columns place c.set_all.new.column ≡
    altered columns place (recorded records) = search rules in
    record { ok = put ∙ recorded_at_once columns place records }

pub returns-in_default : goal.returns-in_default
returns-in_default c =
    let columns = c.args.self.now in
    let place = c.args.place.now in
    let records = c.args.records.now in
    let kept : columns ≡ altered columns place (recorded records) = search rules in
    record { ok = kept ∙ recorded_at_once columns place records }
