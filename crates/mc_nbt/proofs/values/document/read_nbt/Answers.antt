use Rattle.mc_bytes.specs.PlacedLaws.{PlacedGives-found, PlacedGives-only}
use Rattle.mc_bytes.specs.PlacedOne.{placed_one}
use Rattle.mc_nbt.specs.Nbt.{SpellsNbt}
use Rattle.mc_nbt.specs.NbtReading.{nbt_at}
use Rattle.mc_nbt.specs.NbtAgainLaws.{nbt_only}
use Rattle.mc_nbt.specs.NbtTakesLaws.{nbt_found}
use Rattle.mc_nbt.proofs.values.document.read_nbt.Goals as goal

pub returns-clause-found : goal.returns-clause-found
returns-clause-found c = PlacedGives-found (λ read. read) SpellsNbt nbt_at nbt_found
    c.args.bytes.now c.args.at c.nbt_from.result (λ i. (c.type_inv.bytes i).fits) c.requires
    c.nbt_from.ensures

pub returns-clause-only : goal.returns-clause-only
returns-clause-only c value end s = PlacedGives-only (λ read. read) SpellsNbt nbt_at nbt_only
    c.args.bytes.now c.args.at c.nbt_from.result value end c.nbt_from.ensures s

pub returns-clause-one : goal.returns-clause-one
returns-clause-one c a b m n s t =
    placed_one SpellsNbt nbt_at nbt_only c.args.bytes.now c.args.at a b m n s t
