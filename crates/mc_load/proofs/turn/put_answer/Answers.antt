use Rattle.std.proofs.Common.{ℤ, ◌/◌, arith, subst, sym}
use Rattle.std.specs.Int.{w32}
use Rattle.std.proofs.lemmas.Int.{to_z_pos}
use lib.IntN.{pos}
use Rattle.mc_up.specs.declared.play_up.PlayUp.TheVariants.{KeepAlive}
use Rattle.mc_load.specs.Framed.{CanSend}
use Rattle.mc_load.proofs.Sendable.{can_answer}
use Rattle.mc_load.proofs.turn.put_answer.Goals as goal

pub put_frame-requires : goal.put_frame-requires
put_frame-requires c =
    let number = c.args.tick / 100 in
    subst (λ (z : ℤ). CanSend (KeepAlive z)) (sym (to_z_pos w32 number (omega arith)))
    (can_answer (pos number) (record { sfits = omega arith }))
