use Rattle.std.proofs.Common.{◌≡◌, ℤ, ap, sym, subst, ◌∙◌}
use Rattle.std.specs.Int.{w32}
use Rattle.std.proofs.lemmas.Int.{to_z-of_z}
use lib.IntN.{pos}
use mir.Val.{to_z, of_z}
use Rattle.mc_packets.specs.declared.down.Down.TheVariants.{KeepAlive}
use Rattle.mc_model.specs.Ticks.{beat_at}
use Rattle.mc_model.proofs.FitsBeats.{beat_clear, beat_fits}
use Rattle.mc_sending.specs.Sending.{IsClear}
use Rattle.mc_told.proofs.clock.Clock.put_beat.Goals as goal

pub put_made-requires : goal.put_made-requires
put_made-requires c =
    let beat = c.beat_at-beat.result in
    let fits = beat_fits c.args.age c.requires in
    let value : to_z w32 (of_z w32 beat) ≡ pos (beat_at c.args.age) =
    ap (λ (z : ℤ). to_z w32 (of_z w32 z)) c.beat_at-beat.ensures ∙ to_z-of_z w32 _ fits in
    subst (λ (z : ℤ). IsClear (KeepAlive z)) (sym value) (beat_clear _ fits)
