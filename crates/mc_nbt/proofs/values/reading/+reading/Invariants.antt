use Rattle.std.proofs.Common.{◌≡◌, ◌-◌, ◌+◌, ◌*◌, ◌≤◌, length}
use Rattle.mc_bytes.specs.Times.{times_at}
use Rattle.mc_nbt.specs.NbtReading.{value_at, member_at, members_at}
use Rattle.mc_bytes.proofs.Loops.{with_front, IsUnderway}
use Rattle.mc_nbt.proofs.values.reading.+reading.Given as goal

abbrev pub decreases-read_value : goal.decreases-read_value
decreases-read_value l = 4 * l.room + 1

abbrev pub decreases-read_list : goal.decreases-read_list
decreases-read_list l = 4 * l.room + 3

abbrev pub decreases-read_items : goal.decreases-read_items
decreases-read_items l = 4 * l.room + 2

abbrev pub decreases-read_entries : goal.decreases-read_entries
decreases-read_entries l = 4 * l.room + 4

abbrev pub decreases-read_member : goal.decreases-read_member
decreases-read_member l = 4 * l.room + 3

abbrev pub decreases-read_named : goal.decreases-read_named
decreases-read_named l = 4 * l.room + 2

abbrev pub invariant-read_items-loop : goal.invariant-read_items-loop
invariant-read_items-loop l =
    (with_front l.tags (times_at (value_at l.room l.kind) (l.count - l.counter) l.input) ≡
    times_at (value_at l.room l.kind) l.count l.fn.input) × (length l.input ≤ length l.fn.input)

abbrev pub invariant-read_entries-loop-entries : goal.invariant-read_entries-loop-entries
invariant-read_entries-loop-entries l = IsUnderway (member_at (value_at l.room)) l.entries l.input
    (members_at (value_at l.room) l.fn.input) × (length l.input ≤ length l.fn.input)

abbrev pub decreases-read_entries-loop-entries : goal.decreases-read_entries-loop-entries
decreases-read_entries-loop-entries l = length l.input
