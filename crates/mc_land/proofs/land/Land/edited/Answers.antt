use Rattle.std.proofs.Common.{◌∙◌}
use Rattle.mc_land.proofs.SumFacts.{edit_inside, edit_is, edits_len}
use Rattle.mc_land.proofs.land.Land.edited.Goals as goal

pub returns-clause-count : goal.returns-clause-count
returns-clause-count c = rw (← c.self.view_is) (c.edited_in.ensures ∙
    edits_len _ _ _ _ c.self.invariant.0 c.self.invariant.1)

pub returns-clause-inside : goal.returns-clause-inside
returns-clause-inside c =
    rw (← c.self.view_is) (λ key some. edit_inside _ _ _ key c.self.invariant.0 some)

pub returns-clause-differ : goal.returns-clause-differ
returns-clause-differ c =
    rw (← c.self.view_is) (λ key state e. (edit_is _ _ _ key state c.self.invariant.0 e).1)
