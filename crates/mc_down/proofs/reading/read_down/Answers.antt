use Rattle.std.proofs.Common.{rules}
use Rattle.mc_fields.specs.RowLaws.{packet_found, packet_only, spelled_one}
use Rattle.mc_packets.specs.Down.{rows, SpellsDown}
use Rattle.mc_packets.proofs.DownLaws.{tied, seen, entry}
use Rattle.mc_down.proofs.reading.read_down.Goals as goal

pub returns-clause-found : goal.returns-clause-found
returns-clause-found c = packet_found rows SpellsDown seen c.args.frame.now c.map_err.result
    (λ i. (c.type_inv.frame i).fits) (search rules)

pub returns-clause-only : goal.returns-clause-only
returns-clause-only c packet s = packet_only rows packet c.args.frame.now c.map_err.result
    (tied packet) (entry packet c.args.frame.now s) (search rules)

pub returns-clause-one : goal.returns-clause-one
returns-clause-one c p q s t = spelled_one rows p q c.args.frame.now (tied p) (tied q)
    (entry p c.args.frame.now s) (entry q c.args.frame.now t)
