use Rattle.std.specs.Int.{w16}
use Rattle.mc_bytes.specs.NumberLaws.{wide_16}
use Rattle.mc_fields.proofs.Again.{signed_spelled, signed_again}
use Rattle.mc_fields.proofs.integers.write_i16.Goals as goal

pub returns-clause-spelled : goal.returns-clause-spelled
returns-clause-spelled c = signed_spelled w16 wide_16 c.args.value c.ranges.value

pub returns-clause-again : goal.returns-clause-again
returns-clause-again c = signed_again w16 wide_16 c.args.value c.ranges.value
