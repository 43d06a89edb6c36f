use Rattle.std.proofs.Common.{◌≡◌, ◌++◌}
use Rattle.mc_events.specs.Asking.{pending_of}
use Rattle.mc_events.proofs.connections.pending_among.Given as goal

-- those that were put and those among what is left are together all
abbrev pub invariant-loop-number : goal.invariant-loop-number
invariant-loop-number l =
    l.numbers.items ++ pending_of l.number-iterator ≡ pending_of l.connections.entries
