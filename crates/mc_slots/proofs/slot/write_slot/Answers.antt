use Rattle.std.proofs.Common.{◌≡◌, ◌∙◌, rules}
use Rattle.mc_bytes.specs.Format.{Anything}
use Rattle.mc_slots.specs.Slot.{IsTyped, pick}
use Rattle.mc_slots.specs.SlotParts.{parts}
use Rattle.mc_slots.specs.SlotLaws.{slot_appended, slot_spelled, slot_again}
use Rattle.mc_slots.proofs.slot.write_slot.Goals as goal

pub returns-clause-ok : goal.returns-clause-ok
returns-clause-ok c =
    let written : c.write_parts.new.out.items ≡
    (parts {Rest = Anything}).append (pick c.args.slot.now) c.args.out.now.items = search rules in
    written ∙ slot_appended c.args.slot.now c.args.out.now.items

pub returns-clause-spelled : goal.returns-clause-spelled
returns-clause-spelled c = let typed : IsTyped c.args.slot.now = search rules in
    slot_spelled c.args.slot.now (c.requires, typed)

pub returns-clause-again : goal.returns-clause-again
returns-clause-again c = let typed : IsTyped c.args.slot.now = search rules in
    slot_again c.args.slot.now (c.requires, typed)
