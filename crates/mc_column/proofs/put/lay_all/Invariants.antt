use Rattle.std.proofs.Common.{◌||◌}
use Rattle.mc_column.specs.Body.{is_named}
use Rattle.mc_column.proofs.SparseFacts.{AreSwapped}
use Rattle.mc_column.proofs.put.lay_all.Given as goal

-- the sections below i are put
abbrev pub invariant-loop-i : goal.invariant-loop-i
invariant-loop-i l = AreSwapped (λ k. l.ground_up || is_named l.mask k) l.fn.sections.items
    l.fn.made.items l.sections.items l.made.items l.i
