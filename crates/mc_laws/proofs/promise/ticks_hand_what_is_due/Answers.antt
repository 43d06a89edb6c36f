use Rattle.mc_model.specs.Run.{history}
use Rattle.mc_model.specs.World.{new_world}
use Rattle.mc_laws.proofs.Headline.Between.{between}
use Rattle.mc_laws.proofs.Headline.Logins.{logging_in}
use Rattle.mc_laws.proofs.Headline.Ticks.{after_tick_game, at_tick_hands}
use Rattle.mc_laws.proofs.Runs.Worlds.{always_good}
use Rattle.mc_laws.proofs.promise.ticks_hand_what_is_due.Goals as goal

pub returns-clause-ticks : goal.returns-clause-ticks
returns-clause-ticks c = λ start events.
    at_tick_hands (history (new_world start) events) (always_good start events)

pub returns-clause-after : goal.returns-clause-after
returns-clause-after c = λ start events.
    after_tick_game (history (new_world start) events) (always_good start events)

pub returns-clause-between : goal.returns-clause-between
returns-clause-between c = λ start events e k p playing no_tick.
    between (history (new_world start) events) e k p (always_good start events) playing
    no_tick

pub returns-clause-logging_in : goal.returns-clause-logging_in
returns-clause-logging_in c = λ start events e k l there at.
    logging_in (history (new_world start) events) e k l (always_good start events) there at
