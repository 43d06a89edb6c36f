use Rattle.std.proofs.Common.{◌≡◌, ℤ, ap, sym, subst, ◌∙◌}
use Rattle.std.specs.Int.{w64}
use Rattle.std.proofs.lemmas.Int.{to_z-of_z}
use lib.IntN.{pos}
use mir.Val.{to_z, of_z}
use Rattle.mc_packets.specs.declared.down.Down.TheVariants.{Time}
use Rattle.mc_model.specs.Ticks.{shown_age, time_of_day}
use Rattle.mc_model.proofs.FitsBeats.{shown_age_fits, time_clear}
use Rattle.mc_sending.specs.Sending.{IsClear}
use Rattle.mc_told.proofs.clock.Clock.put_time.Goals as goal

pub put_made-requires : goal.put_made-requires
put_made-requires c =
    let age = pos (shown_age c.args.age) in
    let fits = shown_age_fits c.args.age c.requires in
    let shown : to_z w64 (of_z w64 c.shown_age-shown.result) ≡ age =
    ap (λ (z : ℤ). to_z w64 (of_z w64 z)) c.shown_age-shown.ensures ∙ to_z-of_z w64 _ fits in
    let day : to_z w64 (of_z w64 c.time_of_day.result) ≡ time_of_day age =
    to_z-of_z w64 _ (record { sfits = c.time_of_day.type_inv }) ∙ c.time_of_day.ensures
    ∙ ap time_of_day shown in
    let value : Time (to_z w64 (of_z w64 c.shown_age-shown.result))
    (to_z w64 (of_z w64 c.time_of_day.result)) ≡ Time age (time_of_day age) =
    λ i. Time (shown i) (day i) in
    subst IsClear (sym value) (time_clear age fits)
