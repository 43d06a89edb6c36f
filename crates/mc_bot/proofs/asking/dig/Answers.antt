use Rattle.std.specs.Int.{w8}
use mir.Val.{to_z, of_z}
use Rattle.mc_bot.proofs.Askable.{again, can_dig}
use Rattle.mc_bot.proofs.asking.dig.Goals as goal

pub returns-clause-can : goal.returns-clause-can
returns-clause-can c = can_dig (to_z w8 (of_z w8 c.args.status)) c.args.place
    (to_z w8 (of_z w8 c.args.face)) (again w8 c.args.status c.ranges.status) c.requires
    (again w8 c.args.face c.ranges.face)
