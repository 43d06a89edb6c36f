use Rattle.std.proofs.Common.{sym, ◌∙◌, rules}
use Rattle.mc_server.proofs.Closing.{closed_none}
use Rattle.mc_server.proofs.service.turn.close.Goals as goal

pub returns-then-not-done-clause-closed : goal.returns-then-not-done-clause-closed
returns-then-not-done-clause-closed g c = λ w st. closed_none c.args.k _ w c.args.server.now
    (sym (c.done.ensures w st) ∙ search rules) st
