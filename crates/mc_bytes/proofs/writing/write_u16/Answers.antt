use Rattle.std.specs.Int.{w16}
use Rattle.mc_bytes.specs.NumberLaws.{wide_16, number_again}
use Rattle.mc_bytes.proofs.writing.write_u16.Goals as goal

pub returns-clause-again : goal.returns-clause-again
returns-clause-again c = number_again w16 wide_16 c.args.n c.ranges.n.fits
