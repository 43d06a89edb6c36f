use Rattle.std.proofs.lemmas.Result.{err_from_is_err_and, on_ok_weaker}
use Rattle.mc_text.proofs.Growing.{grows_none}
use Rattle.mc_top.proofs.replay.play_script.Goals as goal

pub returns-in_err-server-clause-stopped : goal.returns-in_err-server-clause-stopped
returns-in_err-server-clause-stopped g c =
    let p = err_from_is_err_and c.from_residual.result c.from_residual.ensures.1 in
    rw p.1 (record { len = 0; wrote = grows_none (g.O.Sink.held c.args.out.now) })

pub returns-clause-played : goal.returns-clause-played
returns-clause-played g c =
    on_ok_weaker c.play_all-played.result (λ played. played.wrote)
    (rw c.deref.ensures.value at (c.play_all-played.ensures.played _
    c.in_ok-server.ensures.stands))
