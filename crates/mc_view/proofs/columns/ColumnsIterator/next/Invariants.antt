use Rattle.std.proofs.Common.{◌≡◌, length}
use Rattle.std.specs.Prelude.{not}
use Rattle.std.specs.List.{filter}
use Rattle.mc_column.specs.Places.{Place}
use Rattle.mc_view.specs.Sets.{is_within}
use Rattle.mc_view.proofs.columns.ColumnsIterator.next.Given as goal

-- the other set is the same, and what was passed over it has
abbrev pub invariant-loop-cx : goal.invariant-loop-cx
invariant-loop-cx l =
    (l.self-inside.other ≡ l.initial.self-inside.other) ×
    (filter (λ (place : Place). not (is_within l.initial.self-inside.other place))
    l.self-inside.square ≡
    filter (λ (place : Place). not (is_within l.initial.self-inside.other place))
    l.initial.self-inside.square)

abbrev pub decreases-loop-cx : goal.decreases-loop-cx
decreases-loop-cx l = length l.self-inside.square
