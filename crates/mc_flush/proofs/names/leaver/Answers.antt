use Rattle.std.proofs.Common.{[], arith}
use Rattle.mc_flush.proofs.Carries.{leaver_carried}
use Rattle.mc_flush.proofs.names.leaver.Goals as goal

pub returns-clause-carried : goal.returns-clause-carried
returns-clause-carried c = leaver_carried (c.args.uuid.now, []) (omega arith)
