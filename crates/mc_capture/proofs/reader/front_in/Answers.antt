use Rattle.std.proofs.Common.{rules}
use Rattle.mc_capture.proofs.Faults.{cut_heading}
use Rattle.mc_capture.proofs.reader.front_in.Goals as goal

pub returns-in_default-heading_of-clause-err : goal.returns-in_default-heading_of-clause-err
returns-in_default-heading_of-clause-err c =
    cut_heading c.args.bytes.now _ c.in-Some.kind.now c.args.at c.in-Some.ensures.cases.0
    (search rules) (search rules) c.ranges.at.fits
