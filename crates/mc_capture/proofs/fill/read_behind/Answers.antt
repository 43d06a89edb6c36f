use Rattle.std.proofs.Common.{take, arith}
use Rattle.mc_capture.proofs.Lists.{read_on}
use Rattle.mc_capture.proofs.fill.read_behind.Goals as goal

pub returns-clause-given : goal.returns-clause-given
returns-clause-given g c = (
  take c.in_ok-more.more c.read.new.buf,
  read_on c.args.count c.in_ok-more.more c.args.room.now c.read.new.buf _ (omega (arith, c.requires))
      c.in_ok-more.ensures.within,
  c.in_ok-more.ensures.given,
)
