use Rattle.std.proofs.Common.{ap, ◌∙◌}
use Rattle.std.specs.FinMap as map
use Rattle.mc_flush.specs.Lists.{ListValue}
use Rattle.mc_flush.proofs.Lookups.{lookup_kept}
use Rattle.mc_flush.proofs.player_list.PlayerList.get.Goals as goal

pub returns : goal.returns
returns c =
    c.get.ensures.value ∙ lookup_kept c.args.uuid c.self.inside.present.entries
    ∙ ap (λ (l : ListValue). map.get l.present c.args.uuid) c.self.view_is
