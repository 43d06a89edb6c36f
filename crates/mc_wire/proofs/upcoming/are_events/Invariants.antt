use Rattle.std.proofs.Common.{◌↔◌, drop}
use Rattle.mc_wire.specs.Events.{AreEvents}
use Rattle.mc_wire.proofs.upcoming.are_events.Given as goal

-- all are events exactly where those that are left are
abbrev pub invariant-loop-entry : goal.invariant-loop-entry
invariant-loop-entry l =
    AreEvents 0 l.entries ↔ AreEvents l.least (drop l.entry-index l.entries)
