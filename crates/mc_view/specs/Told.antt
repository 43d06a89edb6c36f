-- What a client was told of entities: of each that it knows, by its number, where it is and looks,
-- and the pile that it holds or is. Rules of this project.
use Rattle.std.specs.Ordering.{int_cmp}
use Rattle.std.specs.FinMap.{FinMap}
use Rattle.mc_fields.specs.declared.position.Spot.{Spot}
use Rattle.mc_slots.specs.declared.pile.Pile.{Pile}

abbrev pub Told : Type 0
Told = FinMap int_cmp (Spot × Pile)
