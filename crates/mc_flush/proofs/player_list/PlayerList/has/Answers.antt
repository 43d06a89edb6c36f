use Rattle.std.proofs.Common.{ap, is_some, ◌∙◌}
use Rattle.std.specs.FinMap.{contains_key}
use Rattle.mc_flush.specs.Lists.{ListValue}
use Rattle.mc_flush.proofs.Lookups.{lookup_kept}
use Rattle.mc_flush.proofs.player_list.PlayerList.has.Goals as goal

pub returns : goal.returns
returns c =
    c.contains_key.ensures ∙ ap is_some (lookup_kept c.args.uuid c.self.inside.present.entries)
    ∙ ap (λ (l : ListValue). contains_key l.present c.args.uuid) c.self.view_is
