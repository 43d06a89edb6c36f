use Rattle.std.proofs.Common.{◌≡◌, ap, ◌∙◌}
use Rattle.mc_windows.specs.declared.desk.Desk.{Desk}
use Rattle.mc_windows.specs.Storing.{stored}
use Rattle.mc_windows.proofs.Leftovers.{left_few, left_is, stored_keeps}
use Rattle.mc_windows.proofs.storing.store.Goals as goal

pub returns-clause-rest : goal.returns-clause-rest
unfolding stored
returns-clause-rest c =
    let whole : c.send.new.self
    ≡ stored c.args.pack.now c.args.item = rw c.with.ensures at c.send.ensures in
    left_is c.args.pack.now c.args.item c.pile.result c.count.result
    (c.pile.ensures.pile ∙ ap
    (λ (desk : Desk). desk.floor) whole) c.pile.ensures.range c.count.ensures

pub returns-clause-keeps : goal.returns-clause-keeps
unfolding stored
returns-clause-keeps c sort =
    let whole : c.send.new.self
    ≡ stored c.args.pack.now c.args.item = rw c.with.ensures at c.send.ensures in
    let left = left_is c.args.pack.now c.args.item c.pile.result c.count.result
    (c.pile.ensures.pile ∙ ap
    (λ (desk : Desk). desk.floor) whole) c.pile.ensures.range c.count.ensures in
    rw (ap (λ (desk : Desk). desk.pack) whole, ← left)
    (stored_keeps sort c.args.pack.now c.args.item)

pub returns-clause-most : goal.returns-clause-most
unfolding stored
returns-clause-most c =
    let whole : c.send.new.self
    ≡ stored c.args.pack.now c.args.item = rw c.with.ensures at c.send.ensures in
    left_few c.args.pack.now c.args.item c.pile.result c.count.result
    (c.pile.ensures.pile ∙ ap (λ (desk : Desk). desk.floor) whole) c.count.ensures
