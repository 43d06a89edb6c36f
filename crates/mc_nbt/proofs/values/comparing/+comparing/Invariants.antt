use Rattle.std.proofs.Common.{◌≡◌, take, map}
use Rattle.mc_nbt.specs.TagView.{tree_of, member_of}
use Rattle.mc_nbt.proofs.values.comparing.+comparing.Given as goal

abbrev pub invariant-same_tags-loop-i : goal.invariant-same_tags-loop-i
invariant-same_tags-loop-i l = take l.i (map tree_of l.a-inside.items.items) ≡
    take l.i (map tree_of l.b-inside.items.items)

abbrev pub invariant-same_entries-loop-i : goal.invariant-same_entries-loop-i
invariant-same_entries-loop-i l = take l.i (map member_of l.a-inside.items.items) ≡
    take l.i (map member_of l.b-inside.items.items)
