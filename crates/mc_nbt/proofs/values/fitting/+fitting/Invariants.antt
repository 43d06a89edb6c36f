use Rattle.std.proofs.Common.{drop, map}
use Rattle.mc_nbt.specs.TagView.{tree_of, member_of}
use Rattle.mc_nbt.proofs.Fit.{ItemsFit, EntriesFit}
use Rattle.mc_nbt.proofs.values.fitting.+fitting.Given as goal

-- where the rest fits, all fits
abbrev pub invariant-items_fit-loop-tag : goal.invariant-items_fit-loop-tag
invariant-items_fit-loop-tag l = ItemsFit l.own l.room (map tree_of (drop l.tag-index l.tag-items))
    → ItemsFit l.own l.room (map tree_of l.tag-items)

abbrev pub invariant-entries_fit-loop-name : goal.invariant-entries_fit-loop-name
invariant-entries_fit-loop-name l =
    EntriesFit l.room (map member_of (drop l.name-index l.name-items)) →
    EntriesFit l.room (map member_of l.name-items)
