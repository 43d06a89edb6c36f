use Rattle.std.proofs.Common.{◌≤◌, ◌-◌, arith}
use Rattle.mc_slots.specs.declared.pile.Pile.TheVariants.{Full}
use Rattle.mc_slots.specs.Pile.{IsPile}
use Rattle.mc_slots.specs.PileLaws.{split_keeps, part_is_pile}
use Rattle.mc_slots.proofs.pile.split.Goals as goal

pub returns-clause-keeps : goal.returns-clause-keeps
returns-clause-keeps c sort =
    let few : c.min-taken.result ≤ c.in-Full.item.count = omega (arith, c.min-taken.ensures) in
    rw (c.in-Full.is, c.pile_of.ensures, c.pile_of-2.ensures)
    (split_keeps sort (Full c.in-Full.item) c.min-taken.result few)

pub returns-clause-piles : goal.returns-clause-piles
returns-clause-piles c is =
    let few : c.min-taken.result ≤ c.in-Full.item.count = omega (arith, c.min-taken.ensures) in
    let full : IsPile (Full c.in-Full.item) = rw c.in-Full.is at is in (
      rw c.pile_of-2.ensures (part_is_pile (Full c.in-Full.item) c.min-taken.result few full),
      rw c.pile_of.ensures (part_is_pile (Full c.in-Full.item)
          (c.in-Full.item.count - c.min-taken.result) (omega arith) full),
    )
