use Rattle.std.proofs.Common.{◌∙◌, arith}
use Rattle.mc_flush.proofs.Carries.{joiner_copied}
use Rattle.mc_flush.proofs.names.joiner.Goals as goal

pub returns-clause-carried : goal.returns-clause-carried
returns-clause-carried c =
    joiner_copied c.args.uuid.now c.args.name.now c.in_ok-name.name c.new.result c.new.ensures
    (c.in_ok-name.ensures ∙ c.as_str.ensures.value) (omega arith) c.as_str.ensures.utf8
    c.requires
