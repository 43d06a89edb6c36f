-- Whether a connection is in play, or closed.
use Rattle.std.specs.Prelude.{Bool, true, false}
use Rattle.mc_model.specs.declared.stage.Stage.{Stage}
use Rattle.mc_model.specs.declared.stage.Stage.TheVariants as stages

abbrev pub is_play : Stage → Bool
is_play stages.Play = true
is_play other = false

abbrev pub is_closed : Stage → Bool
is_closed stages.Closed = true
is_closed other = false
