use Rattle.std.proofs.Common.{◌≡◌, ◌≤◌, ◌+◌, ◌*◌, ◌^◌, length}
use Rattle.std.specs.List.{sum_by}
use Rattle.mc_slots.specs.Pile.{count_of}
use Rattle.mc_land.proofs.land.sums.stored_in.Given as goal

-- what is counted, and what is left
abbrev pub invariant-loop-key : goal.invariant-loop-key
invariant-loop-key l = (l.total + sum_by (λ e. sum_by count_of e.1) l._key-iterator ≡
    sum_by (λ e. sum_by count_of e.1) l.chests.entries) × (l.total + 1728 * length l._key-iterator ≤
    1728 * 2 ^ 63)
