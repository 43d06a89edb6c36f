-- The tree that a tag stands for. Its lists and compounds hold trees already.
use Rattle.std.specs.Prelude.{ℕ, List}
use Rattle.mc_nbt.specs.declared.values.Tag.{Tag}
use Rattle.mc_nbt.specs.declared.values.Tag.TheVariants as tags
use Rattle.mc_nbt.specs.Tree.{Tree, byte, short, int, long, float, double, byte_array, text, list}
use Rattle.mc_nbt.specs.Tree.{compound, int_array, trees_of, members_of}

abbrev pub tree_of : Tag → Tree
tree_of (tags.Byte z) = byte z
tree_of (tags.Short z) = short z
tree_of (tags.Int z) = int z
tree_of (tags.Long z) = long z
tree_of (tags.Float n) = float n
tree_of (tags.Double n) = double n
tree_of (tags.ByteArray bytes) = byte_array bytes
tree_of (tags.Str bytes) = text bytes
tree_of (tags.List kind ts) = list kind (trees_of ts)
tree_of (tags.Compound ms) = compound (members_of ms)
tree_of (tags.IntArray zs) = int_array zs

-- a name and the tree of its tag
abbrev pub member_of : List ℕ × Tag → List ℕ × Tree
member_of m = (m.0, tree_of m.1)
