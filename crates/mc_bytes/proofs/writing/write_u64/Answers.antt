use Rattle.std.specs.Int.{w64}
use Rattle.mc_bytes.specs.NumberLaws.{wide_64, number_again}
use Rattle.mc_bytes.proofs.writing.write_u64.Goals as goal

pub returns-clause-again : goal.returns-clause-again
returns-clause-again c = number_again w64 wide_64 c.args.n c.ranges.n.fits
