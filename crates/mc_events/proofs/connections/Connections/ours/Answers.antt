use Rattle.std.proofs.Common.{◌∙◌, sym, ap, map, length, ℕ}
use Rattle.std.specs.List.{filter}
use Rattle.std.specs.FinMap.{nat_cmp-IsAntisymmetric}
use Rattle.std.proofs.lemmas.Cmp.{nat_cmp_total}
use Rattle.mc_links.specs.Kept.{is_ours}
use Rattle.mc_links.specs.Kept.{ConnectionValue}
use Rattle.mc_bytes.proofs.Trees.{entries_are}
use Rattle.mc_events.proofs.connections.Connections.ours.Goals as goal

pub returns : goal.returns
returns c = rw (← c.self.view_is) (c.ours_among.ensures
    ∙ ap (λ es. length (filter (λ (d : ConnectionValue). is_ours d.link.cause)
    (map (λ (e : ℕ × ConnectionValue). e.1) es)))
    (sym (entries_are nat_cmp_total nat_cmp-IsAntisymmetric
    c.self.inside.by_number.entries c.len-many.ensures.ordered)))
