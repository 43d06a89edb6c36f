use Rattle.std.proofs.Common.{◌≡◌, ◌≤◌, map, take, length}
use Rattle.std.specs.Vec.{vec_capacity, vec_len}
use Rattle.mc_entities.specs.declared.entity.Entity.{Entity}
use Rattle.mc_entities.proofs.places.settle_told.Given as goal

-- the spots of the first entities are kept, and there is room for all
abbrev pub invariant-loop-entity : goal.invariant-loop-entity
invariant-loop-entity l =
    (l.told.items ≡ map (λ (e : Entity). (e.eid, e.spot)) (take l.entity-index l.entity-items))
    × (vec_len l.told ≡ l.entity-index) × (length l.entity-items ≤ vec_capacity l.told)
    × (vec_capacity l.fn.told ≤ vec_capacity l.told)
