use Rattle.std.proofs.Common.{◌≡◌, ◌≤◌, ◌+◌, ◌*◌, length}
use Rattle.std.specs.List.{AllByRecursion}
use Rattle.mc_column.specs.Sizes.{cells}
use Rattle.mc_land.specs.Places.{IsPlace}
use Rattle.mc_flush.specs.Encoding.{AreFrames}
use Rattle.mc_flush.specs.Lists.{ListValue}
use Rattle.mc_play.specs.Kept.{land_of}
use Rattle.mc_showing.specs.Ahead.{with_loads}
use Rattle.mc_showing.specs.Looking.{cells_of}
use Rattle.mc_showing.specs.Preparing.{Prepares}
use Rattle.mc_showing.proofs.ReadyFacts.{IsReadying}
use Rattle.mc_showing.proofs.prepare.prepare_columns.Given as goal

-- where those that are left are ready, all are; what was encoded and what is left make all
abbrev pub invariant-loop-place : goal.invariant-loop-place
invariant-loop-place g l = record {
  near : AllByRecursion IsPlace l.place-iterator;
  ready : IsReadying l.game l.place-iterator l.initial.place-iterator;
  same : Prepares l.initial.game l.game;
  frames : (list : ListValue) → AreFrames (land_of l.initial.game) list l.initial.encoded
      → AreFrames (land_of l.game) list l.encoded;
  loaded : with_loads (cells_of l.initial.game.settled l.initial.game.game) l.encoded
      l.place-iterator
      ≡ with_loads (cells_of l.initial.game.settled l.initial.game.game) l.initial.encoded
      l.initial.place-iterator;
  bounded : l.steps + cells * length l.place-iterator
      ≤ l.initial.steps + cells * length l.initial.place-iterator;
}
