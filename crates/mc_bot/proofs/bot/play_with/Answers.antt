use Rattle.std.proofs.lemmas.Result.{err_from_is_err_and}
use Rattle.mc_bot.proofs.Finishing.{never_written}
use Rattle.mc_bot.proofs.bot.play_with.Goals as goal

pub returns-in_err-play_lines-clause-out_failed : goal.returns-in_err-play_lines-clause-out_failed
returns-in_err-play_lines-clause-out_failed g c =
    let p = err_from_is_err_and c.from_residual.result c.from_residual.ensures.1 in
    rw (p.1, p.2) (λ is. absurd (never_written _ _ _ c.in_err-play_lines.ensures.runs is))
