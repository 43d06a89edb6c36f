-- The packets that move an entity fit.
use Rattle.std.proofs.Common.{not, Bool, true, arith}
use Rattle.std.specs.Int.{w32}
use Rattle.std.proofs.lemmas.Bool.Decides.{nat_tests}
use lib.IntN.{ℤ}
use mir.Val.{SFits}
use Rattle.mc_fields.specs.declared.position.Spot.{Spot}
use Rattle.mc_packets.specs.declared.down.Down.TheVariants.{Teleport}
use Rattle.mc_view.specs.Forms.{form_by, moves_of}
use Rattle.mc_model.specs.Packets.{of_play, for_play}
use Rattle.mc_model.specs.Delta.{move_packets, moves_packets}
use Rattle.mc_model.specs.Fitting.{SpotFits}
use Rattle.mc_model.proofs.Decodes.{IsClear}
use Rattle.mc_model.proofs.AllFacts.{all_joined}
use Rattle.mc_model.proofs.FitsText.{both_true}
use Rattle.mc_model.proofs.FitsSize.{number_fits}
use Rattle.mc_model.proofs.FitsList.{AreClear}
use Rattle.mc_model.proofs.FitsMoves.{head_clear, jump_clear, look_clear, step_clear, step_fits}
use Rattle.mc_model.proofs.FitsMoves.{step_look_clear}

-- ---- the numbers of a spot fit their fields

-- its x
pub east_fits : (spot : Spot) → SpotFits spot → SFits w32 spot.x
east_fits spot at = number_fits spot.x (omega (arith, at.x))

-- its y
pub up_fits : (spot : Spot) → SpotFits spot → SFits w32 spot.y
up_fits spot at = number_fits spot.y (omega (arith, at.y))

-- its z
pub south_fits : (spot : Spot) → SpotFits spot → SFits w32 spot.z
south_fits spot at = number_fits spot.z (omega (arith, at.z))

-- a jump to a spot
jump_at : (eid : ℤ) (spot : Spot) → SFits w32 eid → SpotFits spot
    → IsClear for_play (of_play (Teleport eid spot.x spot.y spot.z spot.yaw spot.pitch true))
jump_at eid spot in_32 at = grind (arith, nat_tests, east_fits, jump_clear, south_fits, up_fits)

-- whichever form tells it
form_clear : (eid dx dy dz : ℤ) (turned : Bool) (spot : Spot) → SFits w32 eid → SpotFits spot
    → AreClear (move_packets eid spot (form_by dx dy dz turned))
form_clear eid dx dy dz turned spot in_32 at =
    grind (
      arith,
      nat_tests,
      both_true,
      jump_at,
      look_clear,
      not,
      step_clear,
      step_fits,
      step_look_clear,
    )

-- from one spot to another
pub moves_clear : (eid : ℤ) (old new : Spot) → SFits w32 eid → SpotFits new
    → AreClear (moves_packets eid new (moves_of old new))
moves_clear eid old new in_32 at = grind (arith, nat_tests, all_joined, form_clear, head_clear)
