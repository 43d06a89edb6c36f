use Rattle.std.proofs.lemmas.Result.{err_from_is_err_and}
use Rattle.mc_bot.proofs.Starting.{begin_patient, hello_fails, new_fails, run_all}
use Rattle.mc_bot.proofs.bot.play_lines.Goals as goal

pub returns-in_err-send_hello-clause-runs : goal.returns-in_err-send_hello-clause-runs
returns-in_err-send_hello-clause-runs g c =
    let p = err_from_is_err_and c.from_residual-in_err-send_hello.result
    c.from_residual-in_err-send_hello.ensures.1 in
    let sent = rw c.name.ensures.is at c.in_err-send_hello.ensures.sent in
    rw (p.1, p.2) (hello_fails _ _ _ _ c.connect.ensures.tells sent)

pub returns-in_err-playing-clause-runs : goal.returns-in_err-playing-clause-runs
returns-in_err-playing-clause-runs g c =
    let p = err_from_is_err_and c.from_residual-in_err-playing.result
    c.from_residual-in_err-playing.ensures.1 in
    let sent = rw c.name.ensures.is at c.in_ok-send_hello.ensures.sent in
    rw (p.1, p.2, c.in_err-playing.ensures.fault) (new_fails _ _ _ c.connect.ensures.tells sent)

pub play-played-requires-clause-patient : goal.play-played-requires-clause-patient
play-played-requires-clause-patient g c =
    rw c.in_ok-playing.ensures.is (begin_patient c.args.patience)

pub returns-clause-runs : goal.returns-clause-runs
returns-clause-runs g c =
    let sent = rw c.name.ensures.is at c.in_ok-send_hello.ensures.sent in
    let step = rw (c.in_ok-playing.ensures.is, c.lines.ensures.is) at c.play-played.ensures.step in
    run_all _ _ _ _ c.play-played.new.self _ c.connect.ensures.tells sent step
