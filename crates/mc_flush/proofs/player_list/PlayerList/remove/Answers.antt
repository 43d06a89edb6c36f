use Rattle.std.proofs.Common.{ap, is_some, ◌∙◌}
use Rattle.std.specs.FinMap.{from_entries, contains_key}
use Rattle.mc_model.specs.Delta.{Pairs}
use Rattle.mc_flush.specs.Lists.{ListValue, without_name}
use Rattle.mc_flush.proofs.Lookups.{removed, lookup_kept}
use Rattle.mc_flush.proofs.player_list.PlayerList.remove.Goals as goal

pub returns-clause-had : goal.returns-clause-had
returns-clause-had c =
    c.is_some.ensures ∙ ap is_some (c.shift_remove.ensures.value
    ∙ lookup_kept c.args.uuid c.self.inside.present.entries)
    ∙ ap (λ (l : ListValue). contains_key l.present c.args.uuid) c.self.view_is

pub returns-clause-gone : goal.returns-clause-gone
returns-clause-gone c =
    let same = removed c.self.inside.present.entries c.shift_remove.new.self.entries c.args.uuid (λ
    q. c.shift_remove.ensures.updates.0 q) in
    ap (λ (m : Pairs). record { present = m; last = from_entries c.self.inside.last.entries }) same
    ∙ ap (λ (l : ListValue). without_name l c.args.uuid) c.self.view_is
