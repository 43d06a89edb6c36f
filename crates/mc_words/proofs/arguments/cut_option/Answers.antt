use Rattle.std.proofs.Common.{rules}
use Rattle.mc_words.proofs.ArgumentSteps.{name-some, value-some, name-none, value-none}
use Rattle.mc_words.proofs.arguments.cut_option.Goals as goal

pub returns-in-Some-clause-name : goal.returns-in-Some-clause-name
returns-in-Some-clause-name c = name-some c.args.argument.now c.in-Some.end (search rules)

pub returns-in-Some-clause-value : goal.returns-in-Some-clause-value
returns-in-Some-clause-value c =
    rw c.split_at.ensures.back (value-some c.args.argument.now c.in-Some.end (search rules))

pub returns-in-None-clause-name : goal.returns-in-None-clause-name
returns-in-None-clause-name c = name-none c.args.argument.now (search rules)

pub returns-in-None-clause-value : goal.returns-in-None-clause-value
returns-in-None-clause-value c =
    rw c.split_at-in-None.ensures.back (value-none c.args.argument.now (search rules))
