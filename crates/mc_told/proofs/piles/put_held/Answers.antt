use Rattle.std.proofs.Common.{pos, sym, subst}
use Rattle.std.specs.Int.{w32}
use Rattle.std.proofs.lemmas.Int.{to_z-of_z}
use Rattle.mc_slots.specs.declared.slot.Slot.{Slot}
use Rattle.mc_packets.specs.declared.down.Down.TheVariants.{Equipment}
use Rattle.mc_model.specs.declared.seen.SeenKind.TheVariants as seen_kinds
use Rattle.mc_model.proofs.FitsEntities.{pile_clear}
use Rattle.mc_sending.specs.Sending.{IsClear}
use Rattle.mc_told.proofs.piles.put_held.Goals as goal

pub put_made-requires : goal.put_made-requires
put_made-requires c =
    rw (to_z-of_z w32 c.args.eid c.ranges.eid)
    (subst (λ (pile : Slot). IsClear (Equipment c.args.eid (pos 0) pile)) (sym c.slot.ensures.slot)
    (pile_clear c.args.eid (seen_kinds.Player 0) c.args.pile c.ranges.eid c.requires).0)
