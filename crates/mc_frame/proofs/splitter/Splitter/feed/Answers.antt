use Rattle.mc_frame.proofs.Fronts.{part_is_fed}
use Rattle.mc_frame.proofs.splitter.Splitter.feed.Goals as goal

pub returns-clause-some : goal.returns-clause-some
returns-clause-some c part none some = part_is_fed c.args.self.now.held c.args.piece.now
    c.args.self.now.fault c.room.result c.min-count.result c.room.ensures c.min-count.ensures part
    none some
