use Rattle.std.proofs.Common.{◌≤◌, List, length, sym, subst}
use lib.IntN.{ℤ}
use Rattle.mc_model.specs.declared.seen.TheConstants.{DESTROYED_MAX}
use Rattle.mc_model.proofs.FitsEntities.{part_clear}
use Rattle.mc_told.proofs.entities.put_destroy.Goals as goal

pub put_made-requires : goal.put_made-requires
put_made-requires c = part_clear c.in_ok-numbers.numbers c.in_ok-numbers.ensures.fits
    (subst (λ (eids : List ℤ). length eids ≤ DESTROYED_MAX) (sym c.in_ok-numbers.ensures.value)
    c.requires.few)
