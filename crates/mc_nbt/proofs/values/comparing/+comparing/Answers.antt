use Rattle.std.proofs.Common.{rules, ◌≡◌, ◌<◌, length, map, sym, ap, ap₂, ◌∙◌, arith, true}
use Rattle.std.specs.Prelude.{IsTrue}
use Rattle.mc_nbt.specs.Tree.{list, compound, int_array, trees_of, members_of}
use Rattle.std.specs.Cmp.Rules.{signed_items}
use Rattle.mc_nbt.specs.TagView.{tree_of, member_of}
use Rattle.mc_nbt.proofs.Alike.{same_next, same_at, trees_of-same, members_of-same}
use Rattle.mc_nbt.proofs.values.comparing.+comparing.Goals as goal

yes : IsTrue true
yes = search rules

pub same_list-returns : goal.same_list-returns
same_list-returns t c = (
  λ h. ap₂ list c.if-kind-other.false (ap trees_of (c.same_tags.ensures.0 h)),
  λ h.
      let ts : trees_of c.args.a.now ≡ trees_of c.args.b.now = cc in
      c.same_tags.ensures.1 (trees_of-same c.args.a.now c.args.b.now ts),
)

pub same_tag-returns-in-Compound-b : goal.same_tag-returns-in-Compound-b
same_tag-returns-in-Compound-b t c =
    rw (c.in-Compound.is, c.in-Compound-b.is) (
      λ h. ap (λ ms. compound (members_of ms)) (c.same_entries.ensures.0 h),
      λ h.
          let ms : members_of c.in-Compound.x ≡ members_of c.in-Compound-b.y = cc in
          c.same_entries.ensures.1 (members_of-same c.in-Compound.x c.in-Compound-b.y ms),
    )

pub same_tag-returns-in-IntArray-b : goal.same_tag-returns-in-IntArray-b
same_tag-returns-in-IntArray-b t c =
    let first = c.as_slice-in-IntArray-b.ensures.value in
    let second = c.as_slice-in-IntArray-b-2.ensures.value in
    let told = signed_items c.as_slice-in-IntArray-b.result.now
    c.as_slice-in-IntArray-b-2.result.now in
    rw (c.in-IntArray.is, c.in-IntArray-b.is) (
      λ h. ap int_array (sym first ∙ told.0 (sym c.eq-in-IntArray-b.ensures ∙ h) ∙ second),
      λ h.
          let zs : c.in-IntArray.x ≡ c.in-IntArray-b.y = cc in
          c.eq-in-IntArray-b.ensures ∙ told.1 (first ∙ zs ∙ sym second),
    )

pub same_tags-loop-i-preserved : goal.same_tags-loop-i-preserved
same_tags-loop-i-preserved t c =
    let lt : c.loop-i.i < length c.a.inside.items.items = omega (
      arith,
      c.a.inside.items.ok,
      c.b.inside.items.ok,
    ) in
    let lt_b : c.loop-i.i < length c.b.inside.items.items = omega (
      arith,
      c.a.inside.items.ok,
      c.b.inside.items.ok,
    ) in
    same_next tree_of c.a.inside.items.items c.b.inside.items.items c.loop-i.i c.index.result.now
    c.index-in-loop-i.result.now lt lt_b c.loop-i.invariant (rw (
      ← c.index.ensures,
      ← c.index-in-loop-i.ensures,
    ) (c.if-not-same_tag.ensures.0 yes))

pub same_tags-returns-then-not-same_tag : goal.same_tags-returns-then-not-same_tag
same_tags-returns-then-not-same_tag t c =
    let lt : c.loop-i.i < length c.a.inside.items.items = omega (
      arith,
      c.a.inside.items.ok,
      c.b.inside.items.ok,
    ) in
    let lt_b : c.loop-i.i < length c.b.inside.items.items = omega (
      arith,
      c.a.inside.items.ok,
      c.b.inside.items.ok,
    ) in (
      λ h. absurd cc,
      λ h.
          let all : map tree_of c.a.inside.items.items ≡ map tree_of c.b.inside.items.items =
          c.a.view_is ∙ h ∙ sym c.b.view_is in
          let one : tree_of c.index.result.now ≡ tree_of c.index-in-loop-i.result.now =
          rw (c.index.ensures, c.index-in-loop-i.ensures)
          (same_at tree_of c.a.inside.items.items c.b.inside.items.items c.loop-i.i
          c.index.result.now c.index-in-loop-i.result.now lt lt_b all) in
          c.if-not-same_tag.ensures.1 one,
    )

pub same_entries-loop-i-preserved : goal.same_entries-loop-i-preserved
same_entries-loop-i-preserved t c =
    let lt : c.loop-i.i < length c.a.inside.items.items = omega (
      arith,
      c.a.inside.items.ok,
      c.b.inside.items.ok,
    ) in
    let lt_b : c.loop-i.i < length c.b.inside.items.items = omega (
      arith,
      c.a.inside.items.ok,
      c.b.inside.items.ok,
    ) in
    same_next member_of c.a.inside.items.items c.b.inside.items.items c.loop-i.i c.index.result.now
    c.index-in-loop-i.result.now lt lt_b c.loop-i.invariant (rw (
      ← c.index.ensures,
      ← c.index-in-loop-i.ensures,
    ) (c.if-not-same_entry.ensures.0 yes))

pub same_entries-returns-then-not-same_entry : goal.same_entries-returns-then-not-same_entry
same_entries-returns-then-not-same_entry t c =
    let lt : c.loop-i.i < length c.a.inside.items.items = omega (
      arith,
      c.a.inside.items.ok,
      c.b.inside.items.ok,
    ) in
    let lt_b : c.loop-i.i < length c.b.inside.items.items = omega (
      arith,
      c.a.inside.items.ok,
      c.b.inside.items.ok,
    ) in (
      λ h. absurd cc,
      λ h.
          let all : map member_of c.a.inside.items.items ≡ map member_of c.b.inside.items.items =
          c.a.view_is ∙ h ∙ sym c.b.view_is in
          let one : member_of c.index.result.now ≡ member_of c.index-in-loop-i.result.now =
          rw (c.index.ensures, c.index-in-loop-i.ensures)
          (same_at member_of c.a.inside.items.items c.b.inside.items.items c.loop-i.i
          c.index.result.now c.index-in-loop-i.result.now lt lt_b all) in
          c.if-not-same_entry.ensures.1 one,
    )
