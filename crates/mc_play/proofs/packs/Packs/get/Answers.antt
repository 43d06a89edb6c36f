-- What is looked up by a name is its pack.
use Rattle.std.proofs.Common.{◌∙◌, ap}
use Rattle.std.specs.FinMap.{get}
use Rattle.mc_play.specs.Named.{packs_of}
use Rattle.mc_play.proofs.NamedPacks.{looked_up}
use Rattle.mc_play.proofs.packs.Packs.get.Goals as goal

pub returns : goal.returns
returns c = rw (← c.self.view_is) (c.get.ensures.value
    ∙ looked_up c.as_str.result.now c.self.inside.by_name.entries
    ∙ ap (get (packs_of c.self.inside.by_name.entries)) c.as_str.ensures.value)
