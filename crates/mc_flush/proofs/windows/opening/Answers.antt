use Rattle.std.proofs.Common.{◌∙◌}
use Rattle.std.specs.Prelude.{None}
use Rattle.mc_slots.specs.Chest.{chest_size}
use Rattle.mc_packets.specs.declared.down.Down.TheVariants.{OpenWindow}
use Rattle.mc_flush.proofs.WindowFrames.{title_is}
use Rattle.mc_flush.proofs.windows.opening.Goals as goal

pub returns : goal.returns
returns g = λ i. OpenWindow g.args.number (g.in_ok-kind.ensures i)
    ((g.in_ok-title.ensures ∙ title_is) i) chest_size None
