use Rattle.std.proofs.Common.{drop}
use Rattle.std.specs.List.{filter_map}
use Rattle.mc_model.specs.Digging.{item_of}
use Rattle.mc_play.proofs.Falling.{IsFalling}
use Rattle.mc_play.proofs.game.Game.drop_all.Given as goal

abbrev pub invariant-loop-i : goal.invariant-loop-i
invariant-loop-i l = IsFalling (filter_map item_of l.chest)
    (filter_map item_of (drop l.i l.chest)) l.spot l.initial.self l.self
