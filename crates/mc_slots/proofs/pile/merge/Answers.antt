use Rattle.std.proofs.Common.{◌≤◌, arith}
use Rattle.mc_slots.specs.declared.pile.Pile.TheVariants.{Full}
use Rattle.mc_slots.specs.Pile.{Joins}
use Rattle.mc_slots.specs.PileLaws.{merge_keeps}
use Rattle.mc_slots.proofs.pile.merge.Goals as goal

pub returns-clause-keeps : goal.returns-clause-keeps
returns-clause-keeps c sort =
    let few : c.min-moved.result ≤ c.in-Full.item.count = omega (arith, c.min-moved.ensures) in
    let joins : Joins c.args.into.now (Full c.in-Full.item) = rw c.in-Full.is at c.requires in
    rw (c.in-Full.is, c.pile_of.ensures) (merge_keeps sort c.args.into.now (Full c.in-Full.item)
    c.min-moved.result joins few)
