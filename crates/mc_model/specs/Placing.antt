-- What a player places. Rules of this project.
use Rattle.std.specs.Prelude.{ℕ, ◌+◌, ◌*◌, ◌==◌, ◌&&◌, not, Bool, unsigned_abs, [], ◌∷◌, Option}
use Rattle.std.specs.Prelude.{Some, None, if◌then◌else◌}
use lib.IntN.{ℤ}
use Rattle.mc_fields.specs.declared.position.Cell.{Cell}
use Rattle.mc_slots.specs.declared.pile.Item.{Item}
use Rattle.mc_slots.specs.declared.pile.Pile.{Pile}
use Rattle.mc_slots.specs.declared.pile.Pile.TheVariants.{Empty, Full}
use Rattle.mc_slots.specs.Pile.{without}
use Rattle.mc_land.specs.Land.{is_chest}
use Rattle.mc_model.specs.declared.notes.Notes.{Notes}
use Rattle.mc_model.specs.declared.player.Player.{Player}
use Rattle.mc_model.specs.Notes.{again, with_cells}
use Rattle.mc_model.specs.Reach.{at_face, is_in_world, is_in_reach}
use Rattle.mc_model.specs.Game.{Game, held_by, state_in}
use Rattle.mc_model.specs.Deeds.{noting, with_state}
use Rattle.mc_model.specs.Hands.{carrying}
use Rattle.mc_model.specs.Windows.{open_chest}

-- the cell that was clicked and the one at the face are sent, and the window
abbrev pub placing_refused : Cell → Cell → Notes → Notes
placing_refused cell target notes = again (with_cells (cell ∷ target ∷ []) notes)

-- the state that an item makes: its damage is the metadata
abbrev pub item_state : Item → ℕ
item_state item = unsigned_abs item.id * 16 + unsigned_abs item.damage

-- a cell is free that is air in the world
abbrev pub is_free : Game → Cell → Bool
is_free g cell = is_in_world cell && state_in g cell == 0

-- one of the item in the hand becomes the cell
abbrev pub placed : Player → Cell → Item → Game → Game
placed p target item g =
    carrying p (without (Full item) 1) (with_state target (item_state item) g)

abbrev pub put_block : ℕ → Player → Cell → Cell → Pile → Game → Game
put_block k p cell target Empty g = noting (placing_refused cell target) k g
put_block k p cell target (Full item) g =
    if is_free g target then placed p target item g
    else noting (placing_refused cell target) k g

-- a chest that is clicked opens, and is not built on
abbrev pub place_at : ℕ → Player → Cell → Option Cell → Game → Game
place_at k p cell None g = g
place_at k p cell (Some target) g =
    if not (is_in_reach g p cell) then noting (placing_refused cell target) k g
    else if is_chest (state_in g cell) then open_chest k p cell g
    else put_block k p cell target (held_by g p) g

-- what the client says to hold is not looked at
abbrev pub place_on : ℕ → Player → Cell → ℤ → Game → Game
place_on k p cell face g = place_at k p cell (at_face cell face) g
