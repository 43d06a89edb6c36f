-- The packets that move an entity fit.
use Rattle.std.proofs.Common.{◌≡◌, ◌<◌, ℕ, true, lit<, arith}
use Rattle.std.specs.Int.{w8, w32}
use Rattle.std.proofs.lemmas.Bool.Decides.{nat_tests}
use lib.IntN.{ℤ}
use mir.Val.{SFits}
use Rattle.mc_packets.specs.declared.down.Down.TheVariants.{Step, Look, StepLook, Teleport}
use Rattle.mc_packets.specs.declared.down.Down.TheVariants.{HeadLook}
use Rattle.mc_view.specs.Forms.{is_byte}
use Rattle.mc_model.specs.Packets.{of_play, for_play}
use Rattle.mc_model.proofs.Decodes.{IsClear, play_clear}
use Rattle.mc_model.proofs.FitsSize.{fields}

-- ---- each packet

-- a step can be sent
pub step_clear : (eid dx dy dz : ℤ) → SFits w32 eid → SFits w8 dx → SFits w8 dy → SFits w8 dz →
    IsClear for_play (of_play (Step eid dx dy dz true))
step_clear eid dx dy dz in_32 at_x at_y at_z =
    play_clear (Step eid dx dy dz true) (search fields) (lit< tt)

-- a step with a turn can be sent
pub step_look_clear : (eid dx dy dz : ℤ) (yaw pitch : ℕ) → SFits w32 eid → SFits w8 dx →
    SFits w8 dy → SFits w8 dz → yaw < 256 → pitch < 256 →
    IsClear for_play (of_play (StepLook eid dx dy dz yaw pitch true))
step_look_clear eid dx dy dz yaw pitch in_32 at_x at_y at_z at_yaw at_pitch =
    play_clear (StepLook eid dx dy dz yaw pitch true) (search fields) (lit< tt)

-- a turn can be sent
pub look_clear : (eid : ℤ) (yaw pitch : ℕ) → SFits w32 eid → yaw < 256 → pitch < 256 →
    IsClear for_play (of_play (Look eid yaw pitch true))
look_clear eid yaw pitch in_32 at_yaw at_pitch =
    play_clear (Look eid yaw pitch true) (search fields) (lit< tt)

-- a jump can be sent
pub jump_clear : (eid x y z : ℤ) (yaw pitch : ℕ) → SFits w32 eid → SFits w32 x → SFits w32 y →
    SFits w32 z → yaw < 256 → pitch < 256 →
    IsClear for_play (of_play (Teleport eid x y z yaw pitch true))
jump_clear eid x y z yaw pitch in_32 at_x at_y at_z at_yaw at_pitch =
    play_clear (Teleport eid x y z yaw pitch true) (search fields) (lit< tt)

-- a turn of the head can be sent
pub head_clear : (eid : ℤ) (yaw : ℕ) → SFits w32 eid → yaw < 256 →
    IsClear for_play (of_play (HeadLook eid yaw))
head_clear eid yaw in_32 at_yaw =
    play_clear (HeadLook eid yaw) (search fields) (lit< tt)

-- ---- whichever form tells it

-- numbers that a step can tell
pub step_fits : (d : ℤ) → is_byte d ≡ true → SFits w8 d
step_fits d t = grind (arith, nat_tests)
