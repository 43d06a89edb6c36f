use Rattle.std.proofs.lemmas.Result.{err_from_is_err_and}
use Rattle.mc_nbt.specs.NbtReading.{value_at, member_at, members_at}
use Rattle.mc_bytes.proofs.Loops.{until_stop, until_done}
use Rattle.mc_nbt.proofs.values.reading.+reading.Goals as goal

pub read_entries-returns-in_err-entry-clause-gives :
    goal.read_entries-returns-in_err-entry-clause-gives
read_entries-returns-in_err-entry-clause-gives t c =
    let p = err_from_is_err_and c.from_residual.result c.from_residual.ensures.1 in
    rw (p.1, p.2) (until_stop (member_at (value_at c.args.room)) c.in_err-entry.field-0.0
    c.loop-entries.entries c.loop-entries.input (members_at (value_at c.args.room)
    c.args.input.now) c.in_err-entry.ensures.gives c.loop-entries.invariant.0)

pub read_entries-returns-clause-gives : goal.read_entries-returns-clause-gives
read_entries-returns-clause-gives t c =
    until_done (member_at (value_at c.args.room)) c.loop-entries.entries c.loop-entries.input
    c.read_member.new.input (members_at (value_at c.args.room) c.args.input.now)
    (rw c.in_default.is at c.in_ok-entry.ensures.gives) c.loop-entries.invariant.0
