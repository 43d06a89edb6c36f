use Rattle.mc_column.specs.Sizes.{squares}
use Rattle.mc_column.proofs.LightFacts.{dimmed_dark, dimmed_air}
use Rattle.mc_column.proofs.light.dim.Goals as goal

pub returns-then-are_zero : goal.returns-then-are_zero
returns-then-are_zero c = dimmed_dark _ _ (c.are_zero.ensures.0 c.if-are_zero.true)

pub returns-then-are_zero-2 : goal.returns-then-are_zero-2
returns-then-are_zero-2 c = dimmed_air _ _ squares c.requires.layer_is
    (c.are_zero-2.ensures.0 c.if-are_zero-2.true)
