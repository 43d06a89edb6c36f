use Rattle.std.proofs.Common.{drop}
use Rattle.std.specs.List.{AllByRecursion}
use Rattle.mc_flush.specs.LineFrames.{IsLine}
use Rattle.mc_scenes.proofs.flushes.are_lines.Given as goal

-- where the rest can be carried, all can
abbrev pub invariant-loop-text : goal.invariant-loop-text
invariant-loop-text l =
    AllByRecursion IsLine (drop l.text-index l.texts) → AllByRecursion IsLine l.texts
