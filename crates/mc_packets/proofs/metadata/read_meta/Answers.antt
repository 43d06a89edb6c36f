use Rattle.mc_bytes.specs.Format.{Anything}
use Rattle.mc_bytes.specs.PlacedLaws.{PlacedGives-found, PlacedGives-only}
use Rattle.mc_bytes.specs.PlacedOne.{placed_one}
use Rattle.mc_packets.specs.Metadata.{SpellsMeta, meta_read, metadata}
use Rattle.mc_packets.proofs.metadata.read_meta.Goals as goal

pub returns-clause-found : goal.returns-clause-found
returns-clause-found c = PlacedGives-found (λ read. read) SpellsMeta meta_read
    (metadata {Rest = Anything}).found c.args.bytes.now c.args.at c.meta_from.result
    (λ i. (c.type_inv.bytes i).fits) c.requires c.meta_from.ensures

pub returns-clause-only : goal.returns-clause-only
returns-clause-only c value end s = PlacedGives-only (λ read. read) SpellsMeta meta_read
    (metadata {Rest = Anything}).only c.args.bytes.now c.args.at c.meta_from.result value end
    c.meta_from.ensures s

pub returns-clause-one : goal.returns-clause-one
returns-clause-one c a b m n s t = placed_one SpellsMeta meta_read (metadata {Rest = Anything}).only
    c.args.bytes.now c.args.at a b m n s t
