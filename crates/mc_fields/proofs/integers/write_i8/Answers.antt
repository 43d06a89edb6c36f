use Rattle.std.specs.Int.{w8}
use Rattle.mc_bytes.specs.NumberLaws.{wide_8}
use Rattle.mc_fields.proofs.Again.{signed_spelled, signed_again}
use Rattle.mc_fields.proofs.integers.write_i8.Goals as goal

pub returns-clause-spelled : goal.returns-clause-spelled
returns-clause-spelled c = signed_spelled w8 wide_8 c.args.value c.ranges.value

pub returns-clause-again : goal.returns-clause-again
returns-clause-again c = signed_again w8 wide_8 c.args.value c.ranges.value
