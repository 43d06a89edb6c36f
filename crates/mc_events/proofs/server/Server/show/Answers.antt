use Rattle.std.proofs.Common.{subst}
use Rattle.std.proofs.lemmas.Result.{on_ok_weaker}
use Rattle.mc_flush.specs.Encoding.{AreFrames}
use Rattle.mc_play.specs.Kept.{land_of}
use Rattle.mc_events.specs.Served.{ServerValue}
use Rattle.mc_events.proofs.Flushed.{flushed_ended}
use Rattle.mc_events.proofs.server.Server.show.Goals as goal

pub show_clients-done-requires-clause-frames : goal.show_clients-done-requires-clause-frames
show_clients-done-requires-clause-frames g c =
    subst (λ (v : ServerValue). AreFrames (land_of v.game) v.list c.in_ok-encoded.encoded)
    c.self.view_is (c.in_ok-encoded.ensures.frames (land_of c.self.inside.game))

pub returns-clause-follows : goal.returns-clause-follows
returns-clause-follows g c = λ w s.
    on_ok_weaker c.end_tick.result (flushed_ended c.args.self.now c.show_clients-done.new.self
    c.end_tick.new.self w s c.show_clients-done.ensures.prepares
    c.in_ok-done.ensures.shown c.show_clients-done.ensures.rest) c.end_tick.ensures.ended
