use Rattle.std.proofs.Common.{◌≤◌, length, rules}
use Rattle.std.proofs.lemmas.Result.{err_from_is_err_and}
use Rattle.mc_top.proofs.Tellings.{front_breaks}
use Rattle.mc_top.proofs.replay_lines.take_front.Goals as goal

pub returns-in_err-put_hex-clause-breaks : goal.returns-in_err-put_hex-clause-breaks
returns-in_err-put_hex-clause-breaks g c w s =
    let few : c.min-count.result ≤ length c.front-front.result.now = search rules in
    let p = err_from_is_err_and c.from_residual.result c.from_residual.ensures.1 in
    rw p.1 (front_breaks w c.args.connection
    c.min-count.result _ _ c.front-front.result.now c.args.lines.now.items few
    (c.front-front.ensures.first w s) c.in_err-put_hex.ensures.breaks)
