use Rattle.std.proofs.Common.{◌≡◌, ◌∙◌, arith, rules, sym, subst}
use Rattle.std.specs.Int.{w8, w16}
use Rattle.std.proofs.lemmas.Int.{to_z-of_z}
use mir.Val.{to_z, of_z}
use Rattle.mc_packets.specs.declared.down.Down.TheVariants.{Confirm}
use Rattle.mc_model.proofs.FitsNotes.{confirm_clear}
use Rattle.mc_sending.specs.Sending.{IsClear}
use Rattle.mc_flush.proofs.notes.put_confirm.Goals as goal

pub put_made-requires : goal.put_made-requires
put_made-requires c =
    let answered = c.args.answered.now in
    let window : to_z w8 (of_z w8 c.cast_signed-window.result) ≡ to_z w8 answered.window =
    to_z-of_z w8 c.cast_signed-window.result (search rules) ∙ c.cast_signed-window.ensures in
    let number : to_z w16 (of_z w16 answered.number) ≡ answered.number =
    to_z-of_z w16 answered.number (search rules) in
    subst IsClear (λ i. Confirm (sym window i) (sym number i) answered.accepted)
    (confirm_clear answered (record { window = omega arith; number = search rules }))
