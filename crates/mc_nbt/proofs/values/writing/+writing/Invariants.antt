use Rattle.std.proofs.Common.{◌≡◌, ◌+◌, ◌*◌, ◌++◌, length, take, drop, map}
use Rattle.mc_nbt.specs.Tree.{list, compound, depth, trees_of, trees_depth, members_of}
use Rattle.mc_nbt.specs.Tree.{members_depth}
use Rattle.mc_nbt.specs.TagView.{tree_of, member_of}
use Rattle.mc_nbt.specs.Nbt.{payload, trees_payload, members_payload}
use Rattle.mc_nbt.proofs.values.writing.+writing.Given as goal

abbrev pub invariant-write_list-loop-tag : goal.invariant-write_list-loop-tag
invariant-write_list-loop-tag l =
    (l.out.items ++ trees_payload (trees_of (map tree_of (drop l.tag-index l.tag-items))) ≡
    l.fn.out.items ++ payload (list l.kind (trees_of (map tree_of l.tag-items))))
    × (take (length l.fn.out.items) l.out.items ≡ l.fn.out.items)

abbrev pub invariant-write_entries-loop-name : goal.invariant-write_entries-loop-name
invariant-write_entries-loop-name l =
    (l.out.items ++ members_payload (members_of (map member_of (drop l.name-index l.name-items))) ≡
    l.fn.out.items ++ payload (compound (members_of (map member_of l.name-items))))
    × (take (length l.fn.out.items) l.out.items ≡ l.fn.out.items)

abbrev pub decreases-write_value : goal.decreases-write_value
decreases-write_value l = 3 * depth (tree_of l.tag.now)

abbrev pub decreases-write_list : goal.decreases-write_list
decreases-write_list l = 3 * trees_depth (trees_of l.tags.now) + 2

abbrev pub decreases-write_entries : goal.decreases-write_entries
decreases-write_entries l = 3 * members_depth (members_of l.entries.now) + 2

abbrev pub decreases-write_entry : goal.decreases-write_entry
decreases-write_entry l = 3 * depth (tree_of l.tag.now) + 1
