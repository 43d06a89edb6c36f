use Rattle.std.proofs.Common.{◌+◌, ◌*◌, ◌<◌, length, arith, refl, ◌∙◌}
use Rattle.std.proofs.lemmas.List.{get_or_read}
use Rattle.mc_column.specs.SizesLaws.{squares-is}
use Rattle.mc_column.proofs.column.Column.biome.Goals as goal

pub index-requires : goal.index-requires
index-requires c = omega (
  arith,
  c.self.invariant.biomes_are,
  squares-is,
  c.self.inside.biomes.ok,
  c.from.ensures,
  c.from-2.ensures,
)

pub returns : goal.returns
returns c =
    let inside : c.from.result * 16 + c.from-2.result < length c.self.inside.biomes.items =
    omega (arith, c.self.invariant.biomes_are, squares-is, c.from.ensures, c.from-2.ensures) in
    rw (← c.self.view_is) (get_or_read _ _ _ inside c.index.ensures 0 ∙
    rw (c.from.ensures, c.from-2.ensures) refl)
