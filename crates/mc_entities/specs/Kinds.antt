-- What an entity is (rules of this project).
use Rattle.std.specs.Prelude.{Bool, true, false}
use Rattle.mc_slots.specs.Pile.{IsItem, IsPile}
use Rattle.mc_entities.specs.declared.entity.EntityKind.{EntityKind}
use Rattle.mc_entities.specs.declared.entity.EntityKind.TheVariants.{Player, Dropped, Mob}

abbrev pub is_dropped : EntityKind → Bool
is_dropped (Player uuid held) = false
is_dropped (Dropped item born) = true
is_dropped Mob = false

abbrev pub is_mob : EntityKind → Bool
is_mob (Player uuid held) = false
is_mob (Dropped item born) = false
is_mob Mob = true

-- both are players, both dropped items, or both mobs
abbrev pub are_alike : EntityKind → EntityKind → Bool
are_alike (Player uuid held) (Player other_uuid other_held) = true
are_alike (Dropped item born) (Dropped other_item other_born) = true
are_alike Mob Mob = true
are_alike _ _ = false

-- what is held and what lies there is in the range of what the world holds
abbrev pub IsKind : EntityKind → Type 0
IsKind (Player uuid held) = IsPile held
IsKind (Dropped item born) = IsItem item
IsKind Mob = Unit {0}
