use Rattle.std.proofs.Common.{◌∙◌, sym, ap, map, ℕ}
use Rattle.std.specs.FinMap.{nat_cmp-IsAntisymmetric}
use Rattle.std.proofs.lemmas.Cmp.{nat_cmp_total}
use Rattle.mc_model.specs.declared.player.Player.{Player}
use Rattle.mc_bytes.proofs.Trees.{entries_are}
use Rattle.mc_play.proofs.players.Players.all.Goals as goal

pub returns-clause-are : goal.returns-clause-are
returns-clause-are c = rw (← c.self.view_is) (c.values.ensures.rest
    ∙ ap (map (λ (e : ℕ × Player). e.1)) (sym (entries_are nat_cmp_total nat_cmp-IsAntisymmetric
    c.self.inside.by_connection.entries c.values.ensures.ordered)))
