use Rattle.std.specs.Int.{w64}
use Rattle.mc_bytes.specs.NumberLaws.{wide_64}
use Rattle.mc_fields.proofs.Again.{signed_spelled, signed_again}
use Rattle.mc_fields.proofs.integers.write_i64.Goals as goal

pub returns-clause-spelled : goal.returns-clause-spelled
returns-clause-spelled c = signed_spelled w64 wide_64 c.args.value c.ranges.value

pub returns-clause-again : goal.returns-clause-again
returns-clause-again c = signed_again w64 wide_64 c.args.value c.ranges.value
