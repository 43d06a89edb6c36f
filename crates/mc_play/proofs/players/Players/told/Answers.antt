use Rattle.std.proofs.Common.{◌∙◌, sym, ap, map, ℕ, rules}
use Rattle.std.specs.Ordering.{nat_cmp}
use Rattle.std.specs.FinMap.{from_entries, nat_cmp-IsAntisymmetric}
use Rattle.std.proofs.lemmas.Cmp.{nat_cmp_total}
use Rattle.std.proofs.lemmas.Map.Made.{map_same_pairs}
use Rattle.mc_model.specs.Maps.{map_keyed}
use Rattle.mc_model.specs.Tick.{told_player}
use Rattle.mc_model.specs.declared.player.Player.{Player}
use Rattle.mc_bytes.proofs.Trees.{entries_are}
use Rattle.mc_play.proofs.players.Players.told.Goals as goal

pub returns : goal.returns
unfolding map_keyed
returns c = rw (← c.self.view_is) (
    ap (from_entries {R = nat_cmp})
    (map_same_pairs _ told_player _ (λ k v b w f t. search rules) _ _
    c.retain.ensures.filtered)
    ∙ ap (λ es. from_entries {R = nat_cmp} (map (λ (e : ℕ × Player). (e.0, told_player e.1)) es))
    (sym (entries_are nat_cmp_total nat_cmp-IsAntisymmetric
    c.self.inside.by_connection.entries c.retain.ensures.was_ordered)))
