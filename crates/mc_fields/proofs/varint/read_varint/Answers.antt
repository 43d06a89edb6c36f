use Rattle.std.proofs.Common.{◌≡◌, ap, ◌∙◌, drop}
use Rattle.mc_bytes.specs.Format.{Anything}
use Rattle.mc_bytes.specs.Placed.{placed}
use Rattle.mc_bytes.specs.PlacedLaws.{placed-Yields, found_at, placed_only}
use Rattle.mc_fields.specs.Varint.{SpellsVarint, varint_read}
use Rattle.mc_fields.specs.VarintLaws.{varint_found, varint_only}
use Rattle.mc_fields.proofs.VarintFaults.{long_at, short_at, faults_at}
use Rattle.mc_fields.proofs.varint.read_varint.Goals as goal

-- the answer is what reading from the offset gives
is : (c : goal.After-placed) → c.placed.result ≡
    placed c.args.bytes.now (varint_read 5 (drop c.args.at c.args.bytes.now))
is c = placed-Yields c.args.bytes.now _ _ c.placed.result _ c.placed.ensures
    c.take_varint-value.ensures ∙ ap (λ t. placed c.args.bytes.now (varint_read 5 t))
    c.at-cursor.ensures

pub returns-clause-found : goal.returns-clause-found
returns-clause-found c = found_at (SpellsVarint 5) (varint_read 5) (varint_found 5) c.args.bytes.now
    c.args.at c.placed.result (λ i. (c.type_inv.bytes i).fits) c.requires (is c)

pub returns-clause-only : goal.returns-clause-only
returns-clause-only c value end s = is c ∙ placed_only (SpellsVarint 5) (varint_read 5)
    (varint_only 5 Anything) c.args.bytes.now c.args.at value end s

pub returns-clause-long : goal.returns-clause-long
returns-clause-long c = long_at 5 c.args.bytes.now c.args.at c.placed.result c.requires (is c)

pub returns-clause-short : goal.returns-clause-short
returns-clause-short c = short_at 5 c.args.bytes.now c.args.at c.placed.result c.requires (is c)

pub returns-clause-faults : goal.returns-clause-faults
returns-clause-faults c = faults_at 5 c.args.bytes.now c.args.at c.placed.result c.requires (is c)
