use Rattle.std.specs.Int.{w32}
use Rattle.std.proofs.lemmas.Int.{to_z-of_z}
use Rattle.mc_nbt.proofs.Written.{AllFitSigned-push}
use Rattle.mc_nbt.proofs.values.Ints.push.Goals as goal

pub invariant_of-self-2 : goal.invariant_of-self-2
invariant_of-self-2 c = rw (c.in_ok-push.ensures.items, to_z-of_z w32 c.args.item c.ranges.item)
    (AllFitSigned-push w32 c.self.inside.items.items c.args.item c.self.invariant c.ranges.item)
