use Rattle.std.proofs.Common.{sym, subst}
use Rattle.std.specs.Int.{w64}
use mir.Val.{SFits, to_z, of_z}
use Rattle.std.proofs.Math.Facts.{to_z-of_z}
use Rattle.mc_model.proofs.FitsTalk.{pong_clear}
use Rattle.mc_session.proofs.reply.pong.Goals as goal

pub status_frame-requires-clause-framed : goal.status_frame-requires-clause-framed
status_frame-requires-clause-framed c =
    (pong_clear (to_z w64 (of_z w64 c.args.number))
    (subst (SFits w64) (sym (to_z-of_z c.ranges.number)) c.ranges.number)).1
