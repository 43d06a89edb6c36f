use Rattle.mc_play.proofs.Counting.{sort_counted}
use Rattle.mc_play.proofs.game.Game.census.Goals as goal

pub returns-clause-sorts : goal.returns-clause-sorts
returns-clause-sorts c = λ sort. sort_counted sort c.args.self.now.game
