use Rattle.std.proofs.Common.{◌≡◌, ◌≤◌, ◌+◌, ◌*◌, ◌^◌, length}
use Rattle.std.specs.List.{sum_by}
use Rattle.mc_slots.specs.Pile.{count_of}
use Rattle.mc_play.specs.Census.{pack_items}
use Rattle.mc_play.proofs.packs.items_in.Given as goal

-- what is counted, and what is left
abbrev pub invariant-loop-name : goal.invariant-loop-name
invariant-loop-name l = (l.total + sum_by (λ e. pack_items count_of e.1) l._name-iterator ≡
    sum_by (λ e. pack_items count_of e.1) l.packs.entries) × (l.total + 9435 * length
    l._name-iterator ≤ 9435 * 2 ^ 63)
