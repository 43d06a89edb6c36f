use Rattle.mc_top.proofs.BotPlays.{bot_played}
use Rattle.mc_top.proofs.bot.bot.Goals as goal

pub returns : goal.returns
returns g c =
    let plays = rw c.from-patience.ensures at c.play-played.ensures.plays.1 in
    rw c.ended_by_play.ensures (bot_played _ g.O.Sink.held _ _ c.args.options _ _ _ _ _ _ _ _ _
    c.play-played.ensures.plays.0 c.play-played.result c.in-Ok.ensures.script plays
    c.play-played.ensures.link_failed c.play-played.ensures.out_failed)
