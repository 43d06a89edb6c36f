-- What players find to pick up and take, entity by entity and by the numbers of their connections.
-- Rules of this project.
use Rattle.std.specs.Prelude.{ℕ, List, Option, None, if◌then◌else◌}
use Rattle.std.specs.List.{fold}
use Rattle.std.specs.Ordering.{nat_cmp}
use Rattle.std.specs.FinMap.{FinMap, entries}
use lib.IntN.{ℤ}
use Rattle.mc_fields.specs.declared.position.Spot.{Spot}
use Rattle.mc_slots.specs.declared.pile.Item.{Item}
use Rattle.mc_entities.specs.declared.entity.Entity.{Entity}
use Rattle.mc_entities.specs.Folk.{eid_of}
use Rattle.mc_entities.specs.Kinds.{is_dropped}
use Rattle.mc_entities.specs.Numbers.{without_all}
use Rattle.mc_model.specs.declared.player.Player.{Player}
use Rattle.mc_model.specs.Game.{Game}
use Rattle.mc_model.specs.Pickups.{pick_up, playing_as, ripe, stowed}
use Rattle.mc_play.specs.Kept.{by_player}

-- an entity as what can be picked up at an age beside a spot
abbrev pub ripe_at : ℕ → Spot → Entity → Option (ℤ × Item)
ripe_at age spot e = ripe age spot e e.kind

-- the connection whose player an entity is
abbrev pub picker : FinMap nat_cmp Player → Entity → Option ℕ
picker players e = if is_dropped e.kind then None else playing_as e.eid (entries players)

-- an item goes into the pack of the player of a connection, if it has one
abbrev pub stowed_by : ℕ → Game → ℤ × Item → Game
stowed_by k g e = by_player k (λ (p : Player). stowed p e) g

-- a game without the entities of some numbers
abbrev pub without_those : List ℤ → Game → Game
without_those gone g = record g { entities = without_all eid_of gone g.entities }

-- several go there, one after another
abbrev pub all_stowed : ℕ → List (ℤ × Item) → Game → Game
all_stowed k found g = fold (stowed_by k) g found

-- the players of connections pick up what they can, one after another
abbrev pub picked_by : Game → ℕ → Game
picked_by g k = by_player k pick_up g

abbrev pub all_picked : List ℕ → Game → Game
all_picked ks g = fold picked_by g ks
