-- What a client is sent before its first difference. Rules of this project; the packets are of the
-- page 'Protocol' of wiki.vg for protocol 47, Join Game, Spawn Position, Player Position And Look.
use Rattle.std.specs.Prelude.{ℕ, false, List, [], ◌∷◌, codes}
use lib.IntN.{ℤ, pos}
use Rattle.mc_fields.specs.declared.position.Spot.{Spot}
use Rattle.mc_packets.specs.declared.down.Down.{Down}
use Rattle.mc_packets.specs.declared.down.Down.TheVariants.{JoinGame, SpawnPosition, PositionLook}
use Rattle.mc_land.specs.declared.terrain.Terrain.{Terrain}
use Rattle.mc_land.specs.declared.terrain.Terrain.TheVariants.{Flat}
use Rattle.mc_model.specs.Numbers.{pattern_of, degrees_of}
use Rattle.mc_model.specs.Spots.{spawn_height}

-- the kind of level that a client is told
abbrev pub level : Terrain → List ℕ
level Flat = codes "flat"
level other = codes "default"

-- a player's own place and look, none of them relative
abbrev pub placing : Spot → Down
placing spot =
    PositionLook (pattern_of spot.x) (pattern_of spot.y) (pattern_of spot.z)
    (degrees_of spot.yaw) (degrees_of spot.pitch) (pos 0)

-- what a client is sent before its first difference: game mode 0, dimension 0, difficulty 1
abbrev pub opening_of : Terrain → ℕ → ℤ → Spot → List Down
opening_of terrain most eid spot =
    JoinGame eid 0 (pos 0) 1 most (level terrain) false
    ∷ SpawnPosition (record { x = pos 8; y = pos (spawn_height terrain); z = pos 8 })
    ∷ placing spot
    ∷ []
