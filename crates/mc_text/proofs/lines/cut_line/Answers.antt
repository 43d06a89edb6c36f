use Rattle.std.proofs.Common.{rules, refl}
use Rattle.mc_text.proofs.Cuts.{cuts_line, cut-none}
use Rattle.mc_text.specs.Lines.{is_line_end}
use Rattle.mc_text.proofs.lines.cut_line.Goals as goal

pub returns-in-Some : goal.returns-in-Some
returns-in-Some c =
    rw c.split_at.ensures.back (cuts_line c.args.text.now c.in-Some.end (search rules))

pub returns-in-None : goal.returns-in-None
returns-in-None c =
    record { lines = cut-none is_line_end c.args.text.now (search rules); size = refl }
