use Rattle.std.proofs.Common.{refl}
use Rattle.mc_status.specs.StatusText.{status_told}
use Rattle.mc_words.proofs.Delivering.{delivers}
use Rattle.mc_top.specs.ReplayPromise.{replay_told}
use Rattle.mc_top.proofs.Replays.{plays_on}
use Rattle.mc_top.proofs.BotKept.{bot_kept}
use Rattle.mc_top.specs.CapturePromise.{shown, viewed}
use Rattle.mc_top.proofs.CaptureKept.{capture_kept, shown_is_text, viewed_is_text}
use Rattle.mc_top.proofs.Loads.{load_kept}
use Rattle.mc_top.proofs.command.perform.Goals as goal
use Rattle.mc_top.proofs.command.perform.Goals.{in-Status, in-Replay, in-Bot}
use Rattle.mc_top.proofs.command.perform.Goals.{in-View, in-Show, in-Load}

pub returns : goal.returns
returns g c = elim c.match-command.branch [
  | in-Status w ↦
      let last = rw (w.ended-is, w.out-is) at c.finish.ensures in
      let said = w.status-ended.ensures in
      rw (w.in-Status.is, w.link-is, w.input-is) (
        ((refl, refl), refl),
        delivers (status_told w.in-Status.most) w.status-ended.result c.finish.result
            _ _ _ _ _ _ _ _ _ _ said last,
      )
  | in-Replay w ↦
      let last = rw (w.ended-is, w.out-is) at c.finish.ensures in
      let said = w.replay-ended.ensures in
      rw (w.in-Replay.is, w.link-is, w.input-is) (
        ((refl, refl), refl),
        (
          delivers (replay_told _) w.replay-ended.result c.finish.result
              _ _ _ _ _ _ _ _ _ _ said.delivered last,
          plays_on _ w.replay-ended.result c.finish.result _ _ _ _ _ said.plays
              last,
        ),
      )
  | in-Bot w ↦
      let last = rw (w.ended-is, w.out-is) at c.finish.ensures in
      let said = w.bot-ended.ensures in
      rw (w.in-Bot.is, w.link-is, w.input-is) (
        (refl, refl),
        bot_kept _ g.O.Sink.held g.O.Sink.faults w.in-Bot.options _ _ _ _ _ _ c.args.out.now
            w.bot-ended.new.out c.finish.new.out w.bot-ended.result c.finish.result said last,
      )
  | in-View w ↦
      let last = rw (w.ended-is, w.out-is) at c.finish.ensures in
      rw (w.in-View.is, w.link-is, w.input-is) (
        ((refl, refl), refl),
        capture_kept viewed w.view-ended.result c.finish.result _ _ _ _ _ _ _ _ _ _
            viewed_is_text w.view-ended.ensures last,
      )
  | in-Show w ↦
      let last = rw (w.ended-is, w.out-is) at c.finish.ensures in
      rw (w.in-Show.is, w.link-is, w.input-is) (
        ((refl, refl), refl),
        capture_kept (shown w.in-Show.client) w.show-ended.result c.finish.result
            _ _ _ _ _ _ _ _ _ _ (shown_is_text w.in-Show.client) w.show-ended.ensures last,
      )
  | in-Load w ↦
      let last = rw (w.ended-is, w.out-is) at c.finish.ensures in
      rw (w.in-Load.is, w.link-is, w.input-is) (
        ((refl, refl), refl, (refl, refl)),
        load_kept w.in-Load.options w.load-ended.result c.finish.result _ _ _ _ _ _
            w.load-ended.ensures last,
      )
]

pub returns-in-Serve : goal.returns-in-Serve
returns-in-Serve g c = rw c.in-Serve.is (((refl, refl), refl), c.serve.ensures _ _ _)
