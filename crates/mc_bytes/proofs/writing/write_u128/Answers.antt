use Rattle.std.specs.Int.{w128}
use Rattle.mc_bytes.specs.SixteenLaws.{wide_128}
use Rattle.mc_bytes.specs.NumberLaws.{number_again}
use Rattle.mc_bytes.proofs.writing.write_u128.Goals as goal

pub returns-clause-again : goal.returns-clause-again
returns-clause-again c = number_again w128 wide_128 c.args.n c.ranges.n.fits
