use Rattle.std.proofs.Common.{◌∙◌}
use Rattle.std.specs.FinMap.{from_entries, nat_cmp-IsAntisymmetric}
use Rattle.std.specs.Ordering.{nat_cmp}
use Rattle.std.proofs.lemmas.Cmp.{nat_cmp_total}
use Rattle.mc_bytes.proofs.Trees.{entry_put, lends_alike, lent_is, tree_get}
use Rattle.mc_capture.proofs.conversations.Conversations.find_mut.Goals as goal

pub returns : goal.returns
returns c = rw (← c.self.view_is) (
  lends_alike c.get_mut.result _ _ _ _
      (λ some w. entry_put nat_cmp_total nat_cmp-IsAntisymmetric
      c.self.inside.by_connection.entries _ c.args.k w
      ((c.get_mut.follows.holds w).3 (lent_is c.get_mut.result _ c.get_mut.ensures.value
      some)).0)
      (λ none. λ i. from_entries {R = nat_cmp} (c.get_mut.follows.holds-at-none i).entries),
  record {
    lends = tt;
    is = c.get_mut.ensures.value
        ∙ tree_get nat_cmp_total c.args.k c.self.inside.by_connection.entries;
  },
)
