use Rattle.mc_bot.proofs.bot.play.Goals as goal

pub returns-clause-plays : goal.returns-clause-plays
returns-clause-plays g c =
    let plays = rw c.new-replica.ensures at c.play_with-played.ensures.plays in (_, plays)
