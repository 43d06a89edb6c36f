use Rattle.std.proofs.Common.{◌≡◌, ◌+◌, ◌≤◌, List, ℕ, ◌++◌, length, drop, map, sym, ap, subst, ◌∙◌}
use Rattle.std.proofs.Common.{arith}
use Rattle.std.proofs.lemmas.List.{length-map}
use Rattle.mc_nbt.specs.Tree.{Tree, depth, trees_of, trees_depth, members_of, members_depth}
use Rattle.mc_nbt.specs.TagView.{tree_of, member_of}
use Rattle.mc_nbt.specs.Nbt.{payload, trees_payload, members_payload, count_of, TreesFit}
use Rattle.mc_nbt.specs.Nbt.{MembersFit}
use Rattle.mc_bytes.proofs.Kept.{kept_more}
use Rattle.mc_nbt.proofs.Fit.{items_length, item_at, entry_at}
use Rattle.mc_nbt.proofs.Written.{next_written, trees_payload-drop, members_payload-drop}
use Rattle.mc_nbt.proofs.Written.{entry_payload, list_begins}
use Rattle.mc_nbt.proofs.values.writing.+writing.Goals as goal

pub write_list-overflow_cast-count : goal.write_list-overflow_cast-count
write_list-overflow_cast-count t c =
    let n : length c.as_slice-count.result.now ≡ count_of (trees_of c.args.tags.now) =
    items_length tree_of c.as_slice-count.result.now c.args.tags.now
    (ap (map tree_of) c.as_slice-count.ensures.value ∙ c.tags.view_is) in
    record { fits = omega (arith, c.requires.1) }

pub write_list-loop-tag-init : goal.write_list-loop-tag-init
write_list-loop-tag-init t c =
    list_begins c.args.out.now.items c.write_u8.new.out.items c.write_u32.new.out.items c.args.kind
    (length c.as_slice-count.result.now) (map tree_of c.deref-tag-items.result.now)
    c.in_ok-write_u8.ensures.ok c.in_ok-write_u32.ensures.ok
    (sym (length-map c.as_slice-count.result.now tree_of) ∙ ap (λ xs. length (map tree_of xs))
    (c.as_slice-count.ensures.value ∙ sym c.deref-tag-items.ensures.value))

pub write_list-write_value-requires : goal.write_list-write_value-requires
write_list-write_value-requires t c =
    let items = c.deref-tag-items.result.now in
    let seen : map tree_of items ≡ c.args.tags.now =
    ap (map tree_of) c.deref-tag-items.ensures.value ∙ c.tags.view_is in
    let fit : TreesFit c.args.kind (trees_of (map tree_of items)) =
    subst (λ (ts : List Tree). TreesFit c.args.kind (trees_of ts)) (sym seen) c.requires.2 in
    let less : trees_depth (trees_of (map tree_of items)) ≤ trees_depth (trees_of c.args.tags.now) =
    rw seen (omega arith) in
    let at = item_at tree_of c.args.kind (trees_depth (trees_of c.args.tags.now)) items
    c.loop-tag.tag-index c.tag-item.result c.loop-tag-test.true (fit, less) in
    let same : depth (tree_of c.tag-item.result) ≤ trees_depth (trees_of c.args.tags.now) =
    rw c.tag-item.is at.1.1 in
    (omega arith, rw c.tag-item.is at.1.0)

pub write_list-loop-tag-preserved : goal.write_list-loop-tag-preserved
write_list-loop-tag-preserved t c =
    let e : c.write_value.new.out.items ≡ c.loop-tag.out.items ++
    payload (tree_of c.tag-item.result) = c.in_ok-write_value.ensures.ok in
    let left = trees_payload-drop tree_of c.deref-tag-items.result.now c.loop-tag.tag-index
    c.tag-item.result c.loop-tag-test.true in
    let f : trees_payload
    (trees_of (map tree_of (drop c.loop-tag.tag-index c.deref-tag-items.result.now))) ≡
    payload (tree_of c.tag-item.result) ++
    trees_payload
    (trees_of (map tree_of (drop (c.loop-tag.tag-index + 1) c.deref-tag-items.result.now))) =
    rw c.tag-item.is left in (
      next_written c.loop-tag.out.items c.write_value.new.out.items _ _ _ _ e f
          c.loop-tag.invariant.0,
      rw e (kept_more c.args.out.now.items c.loop-tag.out.items
          (payload (tree_of c.tag-item.result)) c.loop-tag.invariant.1),
    )

pub write_entries-write_entry-requires : goal.write_entries-write_entry-requires
write_entries-write_entry-requires t c =
    let items = c.deref-name-items.result.now in
    let seen : map member_of items ≡ c.args.entries.now =
    ap (map member_of) c.deref-name-items.ensures.value ∙ c.entries.view_is in
    let fit : MembersFit (members_of (map member_of items)) =
    subst (λ (ms : List (List ℕ × Tree)). MembersFit (members_of ms)) (sym seen) c.requires in
    let less : members_depth (members_of (map member_of items)) ≤
    members_depth (members_of c.args.entries.now) = rw seen (omega arith) in
    let at = entry_at member_of (members_depth (members_of c.args.entries.now)) items
    c.loop-name.name-index c.loop-name-item.result c.loop-name-test.true (fit, less) in
    let same : depth (member_of c.loop-name-item.result).1 ≤
    members_depth (members_of c.args.entries.now) = rw c.loop-name-item.is at.1.1 in
    (omega arith, (rw c.loop-name-item.is at.0, rw c.loop-name-item.is at.1.0))

pub write_entries-loop-name-preserved : goal.write_entries-loop-name-preserved
write_entries-loop-name-preserved t c =
    let e : c.write_entry.new.out.items ≡ c.loop-name.out.items ++
    entry_payload (member_of c.loop-name-item.result) = c.in_ok-write_entry.ensures.ok in
    let left = members_payload-drop member_of c.deref-name-items.result.now c.loop-name.name-index
    c.loop-name-item.result c.loop-name-test.true in
    let f : members_payload
    (members_of (map member_of (drop c.loop-name.name-index c.deref-name-items.result.now))) ≡
    entry_payload (member_of c.loop-name-item.result) ++
    members_payload
    (members_of (map member_of (drop (c.loop-name.name-index + 1)
    c.deref-name-items.result.now))) =
    rw c.loop-name-item.is left in (
      next_written c.loop-name.out.items c.write_entry.new.out.items _ _ _ _ e f
          c.loop-name.invariant.0,
      rw e (kept_more c.args.out.now.items c.loop-name.out.items
          (entry_payload (member_of c.loop-name-item.result)) c.loop-name.invariant.1),
    )
