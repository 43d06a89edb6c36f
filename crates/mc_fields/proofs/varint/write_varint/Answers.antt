use Rattle.mc_fields.specs.VarintLaws.{varint_spelled, varint-fits, varint-shortest, five}
use Rattle.mc_fields.proofs.Again.{varint_again}
use Rattle.mc_fields.proofs.varint.write_varint.Goals as goal

pub returns-clause-spelled : goal.returns-clause-spelled
returns-clause-spelled c =
    varint_spelled 5 five c.args.value (varint-fits c.args.value c.ranges.value)

pub returns-clause-shortest : goal.returns-clause-shortest
returns-clause-shortest c = varint-shortest 5 c.args.value

pub returns-clause-again : goal.returns-clause-again
returns-clause-again c = varint_again c.args.value c.ranges.value
