use Rattle.std.specs.Int.{w32}
use Rattle.mc_bytes.specs.NumberLaws.{wide_32, number_again}
use Rattle.mc_bytes.proofs.writing.write_u32.Goals as goal

pub returns-clause-again : goal.returns-clause-again
returns-clause-again c = number_again w32 wide_32 c.args.n c.ranges.n.fits
