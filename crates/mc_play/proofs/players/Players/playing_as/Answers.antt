use Rattle.std.proofs.Common.{◌∙◌, sym, ap}
use Rattle.std.specs.FinMap.{nat_cmp-IsAntisymmetric}
use Rattle.std.proofs.lemmas.Cmp.{nat_cmp_total}
use Rattle.mc_bytes.proofs.Trees.{entries_are}
use Rattle.mc_model.specs.Pickups.{playing_as}
use Rattle.mc_play.proofs.players.Players.playing_as.Goals as goal

pub returns : goal.returns
returns c = rw (← c.self.view_is) (c.playing_among.ensures
    ∙ ap (playing_as c.args.eid.now) (sym (entries_are nat_cmp_total nat_cmp-IsAntisymmetric
    c.self.inside.by_connection.entries c.len-many.ensures.ordered)))
