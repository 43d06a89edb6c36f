-- What a player digs and what it drops. Rules of this project; what the numbers of a Player Digging
-- mean is of the page 'Protocol' of wiki.vg for protocol 47.
use Rattle.std.specs.Prelude.{ℕ, ◌/◌, ◌%◌, ◌==◌, ◌&&◌, not, Bool, min, nat_le, nat_lt, List, []}
use Rattle.std.specs.Prelude.{◌∷◌, length, Option, Some, None, unwrap_or, if◌then◌else◌}
use Rattle.std.specs.List.{filter_map, fold}
use Rattle.std.specs.Ordering.{int_eq}
use lib.IntN.{ℤ, pos, ◌+ℤ◌, ◌*ℤ◌}
use Rattle.mc_fields.specs.declared.position.Cell.{Cell}
use Rattle.mc_fields.specs.declared.position.Spot.{Spot}
use Rattle.mc_slots.specs.declared.pile.Item.{Item}
use Rattle.mc_slots.specs.declared.pile.Pile.{Pile}
use Rattle.mc_slots.specs.declared.pile.Pile.TheVariants.{Empty, Full}
use Rattle.mc_slots.specs.Pile.{without}
use Rattle.mc_model.specs.declared.player.Player.{Player}
use Rattle.mc_model.specs.Notes.{again, with_cells}
use Rattle.mc_model.specs.Game.{Game, chest_at, held_by, room_in, state_in}
use Rattle.mc_model.specs.Deeds.{noting, thrown, with_state}
use Rattle.mc_model.specs.Hands.{carrying}
use Rattle.mc_model.specs.Reach.{is_in_reach}
use Rattle.mc_model.specs.Windows.{feet_of, shut_all, viewers}

-- ---- what is dug

-- air, and bedrock with any metadata, are not dug
abbrev pub is_dug : ℕ → Bool
is_dug state = not (state == 0) && not (state / 16 == 7)

-- one of what a cell was
abbrev pub block_item : ℕ → Item
block_item state = record { id = pos (state / 16); damage = pos (state % 16); count = 1 }

-- the middle of the floor of a cell
abbrev pub floor_of : Cell → Spot
floor_of cell = record {
  x = pos 32 *ℤ cell.x +ℤ pos 16;
  y = pos 32 *ℤ cell.y;
  z = pos 32 *ℤ cell.z +ℤ pos 16;
  yaw = 0;
  pitch = 0;
}

-- ---- digging

abbrev pub item_of : Pile → Option Item
item_of Empty = None
item_of (Full item) = Some item

-- what lies in the chest at a cell, slot by slot; nothing where there is none
abbrev pub stacks_at : Cell → Game → List Item
stacks_at cell g = filter_map item_of (unwrap_or (chest_at g cell) [])

-- what comes of a cell that is dug: what it was, and then what lay in it, if it was a chest
abbrev pub dug_items : Cell → Game → List Item
dug_items cell g = block_item (state_in g cell) ∷ stacks_at cell g

-- within reach, and with room for all of it
abbrev pub can_dig : Player → Cell → Game → Bool
can_dig p cell g =
    is_in_reach g p cell
    && (is_dug (state_in g cell) && nat_le (length (dug_items cell g)) (room_in g))

-- items lie at a spot, one after another
abbrev pub all_thrown : List Item → Spot → Game → Game
all_thrown items spot g = fold (λ (h : Game) (item : Item). thrown item spot h) g items

-- the cell is air, and what comes of it lies there; then the windows on it close
abbrev pub dug : Cell → Game → Game
dug cell g = shut_all (viewers cell g)
    (all_thrown (dug_items cell g) (floor_of cell) (with_state cell 0 g))

abbrev pub dig : ℕ → Player → Cell → Game → Game
dig k p cell g = if can_dig p cell g then dug cell g else noting (with_cells (cell ∷ [])) k g

-- ---- dropping

-- so many of the item in its hand lie there, and it has the others
abbrev pub dropped : Player → Item → ℕ → Game → Game
dropped p item n g = thrown (record item { count = n }) (feet_of p g)
    (carrying p (without (Full item) n) g)

-- at most so many of what it has in its hand; nothing of nothing
abbrev pub drop_held : ℕ → Player → ℕ → Pile → Game → Game
drop_held k p n Empty g = g
drop_held k p n (Full item) g =
    if nat_lt 0 (room_in g) then dropped p item (min n item.count) g else noting again k g

-- 2 digs a cell, 3 drops what is held and 4 one of it; others do nothing
abbrev pub digging : ℕ → Player → ℤ → Cell → Game → Game
digging k p status cell g =
    if int_eq status (pos 2) then dig k p cell g
    else if int_eq status (pos 3) then drop_held k p 64 (held_by g p) g
    else if int_eq status (pos 4) then drop_held k p 1 (held_by g p) g
    else g
