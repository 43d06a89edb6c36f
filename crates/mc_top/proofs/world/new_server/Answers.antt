use Rattle.std.proofs.Common.{sym}
use Rattle.std.proofs.lemmas.List.{take-map}
use Rattle.mc_top.proofs.world.new_server.Goals as goal

pub returns-clause-stands : goal.returns-clause-stands
returns-clause-stands g c =
    rw (
      take-map (λ mind. g.M.Mind.plan mind) c.args.options.mobs c.args.minds.items,
      sym c.truncate.ensures.items,
    ) c.new.ensures.stands
