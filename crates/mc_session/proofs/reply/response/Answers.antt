use Rattle.mc_model.proofs.FitsTalk.{response_clear}
use Rattle.mc_session.proofs.Status.{status_short}
use Rattle.mc_session.proofs.reply.response.Goals as goal

pub status_frame-requires-clause-fits : goal.status_frame-requires-clause-fits
status_frame-requires-clause-fits c =
    rw c.in_ok-status_json.ensures (response_clear _
    (status_short c.args.max c.args.online c.ranges.max.fits c.ranges.online.fits)).0

pub status_frame-requires-clause-framed : goal.status_frame-requires-clause-framed
status_frame-requires-clause-framed c =
    rw c.in_ok-status_json.ensures (response_clear _
    (status_short c.args.max c.args.online c.ranges.max.fits c.ranges.online.fits)).1
