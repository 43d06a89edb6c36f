use Rattle.std.specs.Int.{w16}
use mir.Val.{to_z, of_z}
use Rattle.mc_bot.proofs.Askable.{again, can_hold}
use Rattle.mc_bot.proofs.asking.hold.Goals as goal

pub returns-clause-can : goal.returns-clause-can
returns-clause-can c =
    can_hold (to_z w16 (of_z w16 c.args.slot)) (again w16 c.args.slot c.ranges.slot)
