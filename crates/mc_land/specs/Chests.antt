-- The chest of a cell.
use Rattle.std.specs.Prelude.{List, Option, None, if◌then◌else◌, nat_lt}
use Rattle.std.specs.FinMap.{get, insert}
use Rattle.mc_slots.specs.declared.pile.Pile.{Pile}
use Rattle.mc_land.specs.Places.{Key, key_of}
use Rattle.mc_land.specs.Land.{LandValue}
use lib.IntN.{ℤ, pos, negsuc}

-- the piles of the chest at x, y and z: none above and below the world
abbrev pub chest_in : LandValue → ℤ → ℤ → ℤ → Option (List Pile)
chest_in land x (pos y) z = if nat_lt y 256 then get land.chests (key_of x y z) else None
chest_in land x (negsuc y) z = None

-- the land with these piles in a chest
abbrev pub with_chest : LandValue → Key → List Pile → LandValue
with_chest land key piles = record land { chests = insert land.chests key piles }

-- the land with these piles in the chest at x, y and z
abbrev pub chest_put : LandValue → ℤ → ℤ → ℤ → List Pile → LandValue
chest_put land x (pos y) z piles = with_chest land (key_of x y z) piles
chest_put land x (negsuc y) z piles = land
