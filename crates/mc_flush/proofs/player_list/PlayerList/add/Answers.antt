use Rattle.std.proofs.Common.{ap, ◌∙◌}
use Rattle.std.specs.FinMap.{from_entries}
use Rattle.mc_model.specs.Delta.{Pairs}
use Rattle.mc_flush.specs.Lists.{ListValue, with_name}
use Rattle.mc_flush.proofs.Lookups.{inserted}
use Rattle.mc_flush.proofs.player_list.PlayerList.add.Goals as goal

pub returns-clause-ok : goal.returns-clause-ok
returns-clause-ok c =
    let same = inserted c.self.inside.present.entries c.insert.new.self.entries c.args.uuid
    c.args.name (λ q. c.in_ok-insert.ensures.updates.0 q) in
    ap (λ (m : Pairs). record { present = m; last = from_entries c.self.inside.last.entries }) same
    ∙ ap (λ (l : ListValue). with_name l c.args.uuid c.args.name) c.self.view_is
