use Rattle.mc_bytes.specs.Format.{Anything}
use Rattle.mc_bytes.specs.PlacedLaws.{PlacedGives-found, PlacedGives-only}
use Rattle.mc_bytes.specs.PlacedOne.{placed_one}
use Rattle.mc_fields.specs.Text.{SpellsText, text_read}
use Rattle.mc_fields.specs.TextLaws.{text_found, text_only}
use Rattle.mc_fields.proofs.text.read_text.Goals as goal

pub returns-clause-found : goal.returns-clause-found
returns-clause-found c = PlacedGives-found (λ read. read) (SpellsText c.args.n) (text_read c.args.n)
    (text_found c.args.n) c.args.bytes.now c.args.at c.text_at.result
    (λ i. (c.type_inv.bytes i).fits) c.requires c.text_at.ensures

pub returns-clause-only : goal.returns-clause-only
returns-clause-only c text end s = PlacedGives-only (λ read. read) (SpellsText c.args.n)
    (text_read c.args.n) (text_only c.args.n Anything) c.args.bytes.now c.args.at c.text_at.result
    text end c.text_at.ensures s

pub returns-clause-one : goal.returns-clause-one
returns-clause-one c a b m p s t = placed_one (SpellsText c.args.n) (text_read c.args.n)
    (text_only c.args.n Anything) c.args.bytes.now c.args.at a b m p s t
