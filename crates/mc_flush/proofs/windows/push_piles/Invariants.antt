use Rattle.std.proofs.Common.{◌≡◌, ◌++◌, drop, map}
use Rattle.mc_slots.specs.Pile.{slot_of}
use Rattle.mc_flush.proofs.windows.push_piles.Given as goal

-- what is there and what is left make all
abbrev pub invariant-loop-pile : goal.invariant-loop-pile
invariant-loop-pile l = l.items ++ map slot_of (drop l.pile-index l.piles)
    ≡ l.initial.items ++ map slot_of l.piles
