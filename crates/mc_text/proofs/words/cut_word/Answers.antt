use Rattle.std.proofs.Common.{rules}
use Rattle.mc_text.specs.Words.{is_space}
use Rattle.mc_text.proofs.Cuts.{cut-some, cut-none}
use Rattle.mc_text.proofs.words.cut_word.Goals as goal

pub returns-in-Some : goal.returns-in-Some
returns-in-Some c =
    rw c.split_at.ensures.back ((cut-some is_space c.args.line.now c.in-Some.end (search rules)).0)

pub returns-in-None : goal.returns-in-None
returns-in-None c = cut-none is_space c.args.line.now (search rules)
