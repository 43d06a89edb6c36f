use Rattle.std.proofs.Common.{ℕ}
use Rattle.mc_links.specs.Beating.{IsBeaten}
use Rattle.mc_events.proofs.Numbered.{Walks}
use Rattle.mc_events.proofs.server.ticking.beat_all.Given as goal

-- the beat came to those so far, and no connection came or went
abbrev pub invariant-loop-id : goal.invariant-loop-id
invariant-loop-id l = Walks (λ (k : ℕ). IsBeaten l.game.game) l.ids l.id-index
    l.initial.connections l.connections
