-- How a client that was told one spot of an entity is told another. A step is told by a signed byte
-- on each axis, in 1/32 blocks: wiki.vg, Entity Relative Move. The rest are rules of this project.
use Rattle.std.specs.Prelude.{Bool, not, ◌&&◌, ◌==◌, int_le, if◌then◌else◌}
use Rattle.std.specs.Ordering.{int_eq}
use lib.IntN.{ℤ, pos, negsuc, ◌-ℤ◌}
use Rattle.mc_fields.specs.declared.position.Spot.{Spot}
use Rattle.mc_view.specs.declared.forms.Form.{Form}
use Rattle.mc_view.specs.declared.forms.Form.TheVariants.{Still, Step, StepTurn, Turn, Jump}
use Rattle.mc_view.specs.declared.forms.Moves.{Moves}

-- from -128 to 127
abbrev pub is_byte : ℤ → Bool
is_byte d = int_le (negsuc 127) d && int_le d (pos 127)

abbrev pub are_bytes : ℤ → ℤ → ℤ → Bool
are_bytes dx dy dz = is_byte dx && is_byte dy && is_byte dz

abbrev pub are_zero : ℤ → ℤ → ℤ → Bool
are_zero dx dy dz = int_eq dx (pos 0) && int_eq dy (pos 0) && int_eq dz (pos 0)

-- by the differences of the places, and whether yaw or pitch differs
abbrev pub form_by : ℤ → ℤ → ℤ → Bool → Form
form_by dx dy dz turned =
    if not (are_zero dx dy dz) && are_bytes dx dy dz then
    (if turned then StepTurn dx dy dz else Step dx dy dz)
    else if not (are_bytes dx dy dz) then Jump
    else if turned then Turn
    else Still

abbrev pub is_turned : Spot → Spot → Bool
is_turned old new = not (old.yaw == new.yaw && old.pitch == new.pitch)

abbrev pub form_of : Spot → Spot → Form
form_of old new =
    form_by (new.x -ℤ old.x) (new.y -ℤ old.y) (new.z -ℤ old.z) (is_turned old new)

-- the head turns exactly where yaw differs
abbrev pub moves_of : Spot → Spot → Moves
moves_of old new = record { form = form_of old new; head = not (old.yaw == new.yaw) }
