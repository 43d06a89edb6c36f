use Rattle.std.proofs.Common.{subst, ◌∙◌}
use Rattle.mc_flush.specs.Encoding.{AreFrames, with_players}
use Rattle.mc_flush.specs.Lists.{ListValue}
use Rattle.mc_showing.proofs.prepare.start.Goals as goal

pub returns-clause-is : goal.returns-clause-is
returns-clause-is c =
    c.in_default.ensures.ok ∙ (λ i. with_players (c.new-encoded.ensures.is i) (c.list.ensures.is i))

pub returns-clause-frames : goal.returns-clause-frames
returns-clause-frames c = λ land.
    subst (λ (list : ListValue). AreFrames land list c.add_players.new.self) c.list.ensures.is
    (c.add_players.ensures.frames land (c.new-encoded.ensures.frames land c.list.result.now))
