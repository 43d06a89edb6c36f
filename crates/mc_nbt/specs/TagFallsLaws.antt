-- What a tag holds is less deep than the tag.
use Rattle.std.specs.Prelude.{ℕ, ◌≤◌, max, List, [], ◌∷◌, map}
use Rattle.std.proofs.Common.{arith}
use denote.Param.Weighed.{most}
use Rattle.mc_nbt.specs.declared.values.Tag.{Tag}
use Rattle.mc_nbt.specs.declared.values.Tag.TheVariants as tags
use Rattle.mc_nbt.specs.declared.values.Entries.TheDeep.{deep-Tag}
use Rattle.mc_nbt.specs.declared.values.Entries.TheShapes as shapes
use Rattle.mc_nbt.specs.Tree.{depth, trees_of, trees_depth, members_of, members_depth}
use Rattle.mc_nbt.specs.TagView.{tree_of, member_of}

pub at_least : (a b : ℕ) → a ≤ b → max a 0 ≤ b
at_least a b h = omega arith

deep-tree_of : (t : Tag) → deep-Tag t ≤ depth (tree_of t)
deep-tree_of (tags.Byte z) = omega arith
deep-tree_of (tags.Short z) = omega arith
deep-tree_of (tags.Int z) = omega arith
deep-tree_of (tags.Long z) = omega arith
deep-tree_of (tags.Float n) = omega arith
deep-tree_of (tags.Double n) = omega arith
deep-tree_of (tags.ByteArray bytes) = omega arith
deep-tree_of (tags.Str bytes) = omega arith
deep-tree_of (tags.List kind ts) = omega arith
deep-tree_of (tags.Compound ms) = omega arith
deep-tree_of (tags.IntArray zs) = omega arith

-- the items of a list
pub tags_fall : (ts : List Tag) → most deep-Tag ts ≤ trees_depth (trees_of (map tree_of ts))
tags_fall [] = omega arith
tags_fall (t ∷ ts) = omega (arith, deep-tree_of t, tags_fall ts)

-- the values of a compound
pub entries_fall : (ms : List (List ℕ × Tag))
    → most ((shapes.weighed-Entries-items-at-2).weight tags.the_data deep-Tag) ms ≤
    members_depth (members_of (map member_of ms))
entries_fall [] = omega arith
entries_fall (m ∷ ms) = omega (arith, deep-tree_of m.1, entries_fall ms)
