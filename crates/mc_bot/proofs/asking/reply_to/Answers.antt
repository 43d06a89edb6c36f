use Rattle.std.proofs.Common.{rules}
use Rattle.std.specs.Int.{w8, w16, w32}
use mir.Val.{to_z, of_z}
use Rattle.mc_bot.proofs.Askable.{again, can_answer, can_confirm, can_place_look}
use Rattle.mc_bot.proofs.asking.reply_to.Goals as goal

pub returns-in-KeepAlive-clause-can : goal.returns-in-KeepAlive-clause-can
returns-in-KeepAlive-clause-can c =
    let n = c.in-KeepAlive.number in
    can_answer (to_z w32 (of_z w32 n)) (again w32 n (search rules))

pub returns-in-Confirm-default-default-false-clause-can :
    goal.returns-in-Confirm-default-default-false-clause-can
returns-in-Confirm-default-default-false-clause-can c =
    let p = c.in-Confirm-default-default-false in
    can_confirm (to_z w8 (of_z w8 p.window)) (to_z w16 (of_z w16 p.number))
    (again w8 p.window (search rules)) (again w16 p.number (search rules))

pub returns-in-PositionLook-clause-can : goal.returns-in-PositionLook-clause-can
returns-in-PositionLook-clause-can c =
    let p = c.in-PositionLook in
    can_place_look p.x p.y p.z p.yaw p.pitch (search rules) (search rules) (search rules)
    (search rules) (search rules)
