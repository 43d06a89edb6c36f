-- Laws of the rows of a list, and that a named compound has one spelling and so no longer one.
use Rattle.std.specs.Prelude.{◌≡◌, suc, List, [], ◌∷◌, length, refl}
use Rattle.std.proofs.Common.{ap, arith}
use Rattle.mc_bytes.specs.Format.{IsBounded}
use Rattle.mc_nbt.specs.Tree.{Tree, trees_of}
use Rattle.mc_nbt.specs.Nbt.{count_of, nbt_spelling, SpellsNbt}

pub count_of-trees_of : (ts : List Tree) → count_of (trees_of ts) ≡ length ts
count_of-trees_of [] = refl
count_of-trees_of (t ∷ ts) = ap suc (count_of-trees_of ts)

pub nbt_bounded : IsBounded SpellsNbt (λ value. length (nbt_spelling value))
nbt_bounded value bytes s =
    let same : length bytes ≡ length (nbt_spelling value) = ap length s.bytes_are in
    omega (arith, same)
