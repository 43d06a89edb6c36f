use Rattle.std.proofs.Common.{arith, rules}
use Rattle.std.specs.Int.{w8, w16}
use mir.Val.{to_z, of_z}
use Rattle.mc_slots.specs.Slot.{IsTyped}
use Rattle.mc_bot.proofs.Askable.{again, click_spelled}
use Rattle.mc_bot.proofs.clicking.click_with.Goals as goal

pub returns-clause-spelled : goal.returns-clause-spelled
returns-clause-spelled c =
    let k = c.args.click in
    let typed : IsTyped c.args.item = search rules in
    click_spelled k.window (to_z w16 (of_z w16 k.slot)) (to_z w8 (of_z w8 k.button))
    (to_z w16 (of_z w16 k.number)) (to_z w8 (of_z w8 k.mode)) c.args.item (omega arith)
    (again w16 k.slot (search rules)) (again w8 k.button (search rules))
    (again w16 k.number (search rules)) (again w8 k.mode (search rules)) (c.requires, typed)
