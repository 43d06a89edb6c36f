use Rattle.std.proofs.Common.{◌≡◌, List, sym, subst}
use Rattle.std.specs.Prelude.{IfOk}
use Rattle.std.specs.FinMap.{keys}
use lib.IntN.{ℤ}
use Rattle.mc_told.proofs.Told.{all_lost, nobody_known}
use Rattle.mc_told.proofs.entities.lost_numbers.Goals as goal

pub returns-then-is_none : goal.returns-then-is_none
returns-then-is_none c =
    let now = c.args.now.now in
    let ks = keys c.args.told.now in
    subst (λ (lost : List ℤ). IfOk c.all_numbers.result (λ eids. eids.items ≡ lost))
    (sym (all_lost now (nobody_known now c.known.result
    c.known.ensures.eid c.if-is_none.ensures) ks)) c.all_numbers.ensures
