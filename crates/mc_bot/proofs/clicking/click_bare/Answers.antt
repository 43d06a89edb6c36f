use Rattle.std.proofs.Common.{arith, rules}
use Rattle.std.specs.Int.{w8, w16}
use mir.Val.{to_z, of_z}
use Rattle.mc_bot.proofs.Askable.{again, can_click}
use Rattle.mc_bot.proofs.clicking.click_bare.Goals as goal

pub returns-clause-can : goal.returns-clause-can
returns-clause-can c =
    let k = c.args.click in
    can_click k.window (to_z w16 (of_z w16 k.slot)) (to_z w8 (of_z w8 k.button))
    (to_z w16 (of_z w16 k.number)) (to_z w8 (of_z w8 k.mode)) (omega arith)
    (again w16 k.slot (search rules)) (again w8 k.button (search rules))
    (again w16 k.number (search rules)) (again w8 k.mode (search rules))
