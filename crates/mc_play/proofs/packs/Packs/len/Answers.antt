use Rattle.std.proofs.Common.{◌∙◌}
use Rattle.mc_play.proofs.NamedPacks.{counted}
use Rattle.mc_play.proofs.packs.Packs.len.Goals as goal

pub returns : goal.returns
returns c = rw (← c.self.view_is) (c.len.ensures.len
    ∙ counted c.self.inside.by_name.entries c.len.ensures.unique)
