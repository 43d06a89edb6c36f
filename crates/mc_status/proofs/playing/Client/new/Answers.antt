use Rattle.std.proofs.Common.{[], refl}
use Rattle.mc_model.specs.Minds.{without_mobs}
use Rattle.mc_model.specs.World.{new_world}
use Rattle.mc_status.specs.StatusText.{lone_settings}
use Rattle.mc_status.proofs.Received.{first_meets}
use Rattle.mc_status.proofs.playing.Client.new.Goals as goal

pub returns : goal.returns
returns c start = first_meets c.args.most start c.event.new.self c.new-3.result.items
    c.new-3.ensures.items
    (c.in_ok-event.ensures.follows (new_world (without_mobs (lone_settings c.args.most)))
    (c.in_ok-server.ensures [] refl) (λ tick. absurd cc))
