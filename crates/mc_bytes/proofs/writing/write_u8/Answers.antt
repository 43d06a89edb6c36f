use Rattle.std.specs.Int.{w8}
use Rattle.mc_bytes.specs.NumberLaws.{wide_8, number_again}
use Rattle.mc_bytes.proofs.writing.write_u8.Goals as goal

pub returns-clause-again : goal.returns-clause-again
returns-clause-again c = number_again w8 wide_8 c.args.n c.ranges.n.fits
