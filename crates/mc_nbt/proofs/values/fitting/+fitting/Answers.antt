use Rattle.std.proofs.Common.{rules, ◌≡◌, List, ℕ, length, map, sym, ap, subst, ◌∙◌, arith, true}
use Rattle.std.specs.Prelude.{IsTrue}
use Rattle.mc_nbt.specs.Tree.{Tree, trees_of}
use Rattle.mc_nbt.specs.TagView.{tree_of, member_of}
use Rattle.mc_nbt.specs.Nbt.{count_of}
use Rattle.mc_nbt.proofs.Fit.{ItemFits, ItemsFit, EntryFits, EntriesFit, item_at, item_before}
use Rattle.mc_nbt.proofs.Fit.{no_item, entry_at, entry_before, no_entry, items_length}
use Rattle.mc_nbt.proofs.values.fitting.+fitting.Goals as goal

yes : IsTrue true
yes = search rules

pub list_fits-returns-then-as_slice : goal.list_fits-returns-then-as_slice
list_fits-returns-then-as_slice t c =
    let n : length c.as_slice.result.now ≡ count_of (trees_of c.args.tags.now) =
    items_length tree_of c.as_slice.result.now c.args.tags.now
    (ap (map tree_of) c.as_slice.ensures.value ∙ c.tags.view_is) in
    (λ h. absurd cc, λ h. absurd (omega (arith, h.0.1)))

pub list_fits-returns : goal.list_fits-returns
list_fits-returns t c =
    let n : length c.as_slice.result.now ≡ count_of (trees_of c.args.tags.now) =
    items_length tree_of c.as_slice.result.now c.args.tags.now
    (ap (map tree_of) c.as_slice.ensures.value ∙ c.tags.view_is) in (
      λ h. let g = c.items_fit.ensures.0 h in ((omega arith, omega arith, g.0), omega (arith, g.1)),
      λ h. c.items_fit.ensures.1 (h.0.2, omega (arith, h.1)),
    )

pub items_fit-returns-then-not-item_fits : goal.items_fit-returns-then-not-item_fits
items_fit-returns-then-not-item_fits t c =
    let items = c.deref-tag-items.result.now in
    let seen : map tree_of items ≡ c.args.tags.now =
    ap (map tree_of) c.deref-tag-items.ensures.value ∙ c.tags.view_is in (
      λ h. absurd cc,
      λ h.
          let all : ItemsFit c.args.own c.args.room (map tree_of items) =
          subst (λ (ts : List Tree). ItemsFit c.args.own c.args.room ts) (sym seen) h in
          let one : ItemFits c.args.own c.args.room (tree_of c.tag-item.result) =
          rw c.tag-item.is (item_at tree_of c.args.own c.args.room items c.loop-tag.tag-index
          c.tag-item.result c.loop-tag-test.true all) in
          c.if-not-item_fits.ensures.1 one,
    )

pub items_fit-loop-tag-preserved : goal.items_fit-loop-tag-preserved
items_fit-loop-tag-preserved t c = λ rest.
    c.loop-tag.invariant (item_before tree_of c.args.own c.args.room c.deref-tag-items.result.now
    c.loop-tag.tag-index c.tag-item.result c.loop-tag-test.true
    (rw (← c.tag-item.is) (c.if-not-item_fits.ensures.0 yes)) rest)

pub items_fit-returns : goal.items_fit-returns
items_fit-returns t c =
    let items = c.deref-tag-items.result.now in
    let seen : map tree_of items ≡ c.args.tags.now =
    ap (map tree_of) c.deref-tag-items.ensures.value ∙ c.tags.view_is in (
      λ h. subst (λ (ts : List Tree). ItemsFit c.args.own c.args.room ts) seen
          (c.loop-tag.invariant (no_item tree_of c.args.own c.args.room items c.loop-tag.tag-index
          c.loop-tag-test.false)),
      λ h. yes,
    )

pub entries_fit-returns-then-not-entry_fits : goal.entries_fit-returns-then-not-entry_fits
entries_fit-returns-then-not-entry_fits t c =
    let items = c.deref-name-items.result.now in
    let seen : map member_of items ≡ c.args.entries.now =
    ap (map member_of) c.deref-name-items.ensures.value ∙ c.entries.view_is in (
      λ h. absurd cc,
      λ h.
          let all : EntriesFit c.args.room (map member_of items) =
          subst (λ (ms : List (List ℕ × Tree)). EntriesFit c.args.room ms) (sym seen) h in
          let one : EntryFits c.args.room (member_of c.loop-name-item.result) =
          rw c.loop-name-item.is (entry_at member_of c.args.room items c.loop-name.name-index
          c.loop-name-item.result c.loop-name-test.true all) in
          c.if-not-entry_fits.ensures.1 one,
    )

pub entries_fit-loop-name-preserved : goal.entries_fit-loop-name-preserved
entries_fit-loop-name-preserved t c = λ rest.
    c.loop-name.invariant (entry_before member_of c.args.room c.deref-name-items.result.now
    c.loop-name.name-index c.loop-name-item.result c.loop-name-test.true
    (rw (← c.loop-name-item.is) (c.if-not-entry_fits.ensures.0 yes)) rest)

pub entries_fit-returns : goal.entries_fit-returns
entries_fit-returns t c =
    let items = c.deref-name-items.result.now in
    let seen : map member_of items ≡ c.args.entries.now =
    ap (map member_of) c.deref-name-items.ensures.value ∙ c.entries.view_is in (
      λ h. subst (λ (ms : List (List ℕ × Tree)). EntriesFit c.args.room ms) seen
          (c.loop-name.invariant (no_entry member_of c.args.room items c.loop-name.name-index
          c.loop-name-test.false)),
      λ h. yes,
    )
