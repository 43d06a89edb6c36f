-- Pickups: at each tick players pick up the items that lie near them. Rules of this project.
use Rattle.std.specs.Prelude.{ℕ, ◌+◌, ◌&&◌, Bool, nat_le, unsigned_abs, List, Option, Some, None}
use Rattle.std.specs.Prelude.{option_map, if◌then◌else◌}
use Rattle.std.specs.List.{filter_map, fold}
use Rattle.std.specs.FinMap.{entries, get}
use lib.IntN.{ℤ, pos, ◌-ℤ◌}
use Rattle.mc_fields.specs.declared.position.Spot.{Spot}
use Rattle.mc_slots.specs.declared.pile.Item.{Item}
use Rattle.mc_windows.specs.Storing.{stored}
use Rattle.mc_entities.specs.declared.entity.Entity.{Entity}
use Rattle.mc_entities.specs.declared.entity.EntityKind.{EntityKind}
use Rattle.mc_entities.specs.declared.entity.EntityKind.TheVariants as kinds
use Rattle.mc_entities.specs.Kinds.{is_dropped}
use Rattle.mc_entities.specs.Numbers.{numbered}
use Rattle.mc_model.specs.declared.pickups.TheConstants.{PICKUP_TICKS, PICKUP_SIDE, PICKUP_HEIGHT}
use Rattle.mc_model.specs.declared.player.Player.{Player}
use Rattle.mc_model.specs.Game.{Game, of_player, pack_of, spot_of}
use Rattle.mc_model.specs.Deeds.{lessened, repack_of}

-- ---- what a player can pick up

-- so far apart at most along an axis
abbrev pub are_within : ℕ → ℤ → ℤ → Bool
are_within most a b = nat_le (unsigned_abs (a -ℤ b)) most

-- within a block on each side, and one and a half above and below
abbrev pub is_beside : Spot → Spot → Bool
is_beside a b =
    are_within PICKUP_SIDE a.x b.x
    && (are_within PICKUP_HEIGHT a.y b.y && are_within PICKUP_SIDE a.z b.z)

-- an item that lies beside a spot, and has lain there long enough at an age, with its number
abbrev pub ripe : ℕ → Spot → Entity → EntityKind → Option (ℤ × Item)
ripe age spot e (kinds.Player uuid held) = None
ripe age spot e (kinds.Dropped item born) =
    if nat_le (born + PICKUP_TICKS) age && is_beside spot e.spot then Some (e.eid, item) else None
ripe age spot e kinds.Mob = None

-- those beside a player, in rising number
abbrev pub ripe_for : Player → Game → List (ℤ × Item)
ripe_for p g = filter_map (λ (e : Entity). ripe g.age (spot_of g p) e e.kind) g.entities

-- ---- picking up

-- an item goes into a player's pack as far as that has room; what is left of it stays there
abbrev pub stowed : Player → ℤ × Item → Game → Game
stowed p e g =
    let end = stored (pack_of g p) e.1 in lessened e.0 end.floor (repack_of p end.pack g)

-- a player picks up what it can, one item after another
abbrev pub pick_up : Player → Game → Game
pick_up p g = fold (λ (h : Game) (e : ℤ × Item). stowed p e h) g (ripe_for p g)

-- the connection whose player has a number
abbrev pub playing_as : ℤ → List (ℕ × Player) → Option ℕ
playing_as eid entries =
    option_map (λ (e : ℕ × Player). e.0) (numbered (λ (e : ℕ × Player). pos e.1.eid) eid entries)

-- the connections of players, in rising number of their entities
abbrev pub pickers : Game → List ℕ
pickers g = filter_map (λ (e : Entity).
    if is_dropped e.kind then None else playing_as e.eid (entries g.players)) g.entities

-- all players pick up what they can, one after another
unfoldable pub pickups : Game → Game
pickups g =
    fold (λ (h : Game) (k : ℕ). of_player h (λ p. pick_up p h) (get h.players k)) g (pickers g)
