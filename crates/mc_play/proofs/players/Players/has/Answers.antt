use Rattle.std.proofs.Common.{◌∙◌, ◌==◌, sym, ap, map, ℕ}
use Rattle.std.specs.List.{list_any}
use Rattle.std.specs.FinMap.{nat_cmp-IsAntisymmetric}
use Rattle.std.proofs.lemmas.Cmp.{nat_cmp_total}
use Rattle.mc_model.specs.declared.player.Player.{Player}
use Rattle.mc_bytes.proofs.Trees.{entries_are}
use Rattle.mc_play.proofs.players.Players.has.Goals as goal

pub returns : goal.returns
returns c = rw (← c.self.view_is) (c.is_among.ensures
    ∙ ap (λ es. list_any (λ (p : Player). p.uuid == c.args.uuid) (map (λ (e : ℕ × Player). e.1) es))
    (sym (entries_are nat_cmp_total nat_cmp-IsAntisymmetric
    c.self.inside.by_connection.entries c.len-many.ensures.ordered)))
