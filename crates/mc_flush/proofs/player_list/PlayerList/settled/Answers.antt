use Rattle.std.proofs.Common.{ap, sym, ◌∙◌}
use Rattle.std.specs.FinMap as map
use Rattle.mc_flush.specs.Lists.{ListValue}
use Rattle.mc_flush.proofs.Lookups.{len_kept}
use Rattle.mc_flush.proofs.player_list.PlayerList.settled.Goals as goal

pub returns : goal.returns
returns c =
    c.len.ensures.len ∙ sym (len_kept c.self.inside.last.entries c.len.ensures.unique)
    ∙ ap (λ (l : ListValue). map.len l.last) c.self.view_is
