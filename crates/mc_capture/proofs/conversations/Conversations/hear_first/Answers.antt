use Rattle.std.proofs.Common.{◌++◌, subst}
use Rattle.std.proofs.lemmas.Result.{err_from_is_err_and}
use Rattle.mc_capture.specs.Gathering.{Gathers}
use Rattle.mc_capture.specs.Talks.{Talk, heard_lines}
use Rattle.mc_capture.proofs.Gatherings.{part_all}
use Rattle.mc_capture.proofs.conversations.Conversations.hear_first.Goals as goal

pub returns-in_err-add-clause-part : goal.returns-in_err-add-clause-part
returns-in_err-add-clause-part g c =
    let p = err_from_is_err_and c.from_residual-in_err-add.result
    c.from_residual-in_err-add.ensures.1 in
    let P : Talk → Type 0 = λ talk. Gathers (g.O.Sink.held c.args.out.now)
    (g.O.Sink.held c.hear.new.out)
    (c.args.lines.now.items ++ heard_lines c.args.k c.args.way talk c.args.piece.now)
    c.hear.new.lines.items in
    rw p.1 (part_all _ _ _ _ (subst P c.new-talk.ensures c.in_ok-hear.ensures.gathers))
