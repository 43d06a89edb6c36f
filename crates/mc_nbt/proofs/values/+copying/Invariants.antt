use Rattle.std.proofs.Common.{◌≡◌, take}
use Rattle.mc_nbt.proofs.values.+copying.Given as goal

abbrev pub invariant-Entries::copy-loop-name : goal.invariant-Entries::copy-loop-name
invariant-Entries::copy-loop-name l = l.copies.items ≡ take l.name-index l.name-items

abbrev pub invariant-Tags::copy-loop-tag : goal.invariant-Tags::copy-loop-tag
invariant-Tags::copy-loop-tag l = l.copies.items ≡ take l.tag-index l.tag-items
