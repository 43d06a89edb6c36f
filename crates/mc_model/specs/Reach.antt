-- Which cells a player can dig and place on. Rules of this project.
use Rattle.std.specs.Prelude.{◌&&◌, Bool, nat_le, unsigned_abs, Option, Some, None, if◌then◌else◌}
use Rattle.std.specs.Int.{int_div_euclid}
use Rattle.std.specs.Ordering.{int_eq}
use lib.IntN.{ℤ, pos, ◌+ℤ◌, ◌-ℤ◌}
use Rattle.mc_fields.specs.declared.position.Cell.{Cell}
use Rattle.mc_fields.specs.declared.position.Spot.{Spot}
use Rattle.mc_land.specs.Places.{is_inside}
use Rattle.mc_model.specs.declared.player.Player.{Player}
use Rattle.mc_model.specs.Game.{Game, spot_of}

-- a cell that has a state of its own
abbrev pub is_in_world : Cell → Bool
is_in_world cell = is_inside cell.x cell.y cell.z

-- at most six blocks from the block of a coordinate
abbrev pub is_close : ℤ → ℤ → Bool
is_close block v = nat_le (unsigned_abs (block -ℤ int_div_euclid v (pos 32))) 6

abbrev pub is_near : Spot → Cell → Bool
is_near spot cell = is_close cell.x spot.x && (is_close cell.y spot.y && is_close cell.z spot.z)

-- The cell at a face of another: of the page 'Protocol' of wiki.vg for protocol 47, Player Digging.
-- None of a number that names no face.
abbrev pub at_face : Cell → ℤ → Option Cell
at_face cell face =
    if int_eq face (pos 0) then Some (record cell { y = cell.y -ℤ pos 1 })
    else if int_eq face (pos 1) then Some (record cell { y = cell.y +ℤ pos 1 })
    else if int_eq face (pos 2) then Some (record cell { z = cell.z -ℤ pos 1 })
    else if int_eq face (pos 3) then Some (record cell { z = cell.z +ℤ pos 1 })
    else if int_eq face (pos 4) then Some (record cell { x = cell.x -ℤ pos 1 })
    else if int_eq face (pos 5) then Some (record cell { x = cell.x +ℤ pos 1 })
    else None

-- at most six blocks from the block that a player stands in, on each axis
abbrev pub is_in_reach : Game → Player → Cell → Bool
is_in_reach g p cell = is_in_world cell && is_near (spot_of g p) cell
