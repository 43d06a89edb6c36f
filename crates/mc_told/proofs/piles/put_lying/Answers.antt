use Rattle.std.proofs.Common.{List, [], ◌∷◌, sym, subst, ap, ◌∙◌}
use Rattle.std.specs.Int.{w32}
use Rattle.std.proofs.lemmas.Int.{to_z-of_z}
use Rattle.mc_slots.specs.declared.slot.Slot.{Slot}
use Rattle.mc_packets.specs.declared.meta.MetaEntry.{MetaEntry}
use Rattle.mc_packets.specs.declared.meta.MetaValue.TheVariants as values
use Rattle.mc_packets.specs.declared.down.Down.TheVariants.{Meta}
use Rattle.mc_model.specs.declared.seen.SeenKind.TheVariants as seen_kinds
use Rattle.mc_model.proofs.FitsEntities.{pile_clear}
use Rattle.mc_sending.specs.Sending.{IsClear}
use Rattle.mc_told.proofs.piles.put_lying.Goals as goal

pub put_made-requires : goal.put_made-requires
put_made-requires c =
    let Clear : List MetaEntry → Type 0 = λ metas. IsClear (Meta c.args.eid metas) in
    rw (to_z-of_z w32 c.args.eid c.ranges.eid)
    (subst Clear (sym (c.in_ok-metas.ensures
    ∙ ap (λ (pile : Slot). record { index = 10; value = values.Slot pile } ∷ [])
    c.slot.ensures.slot))
    (pile_clear c.args.eid seen_kinds.Dropped c.args.pile c.ranges.eid c.requires).0)
