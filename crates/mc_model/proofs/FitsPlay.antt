-- The packets of play that are handed out beside the difference fit.
use Rattle.std.proofs.Common.{ℕ, ◌^◌, ◌<◌, ◌≤◌, false, List, lit<, arith, lit≤}
use lib.IntN.{pos}
use Rattle.mc_fields.specs.declared.position.Cell.{Cell}
use Rattle.mc_fields.specs.Position.{FitsCell}
use Rattle.mc_packets.specs.declared.down.Down.TheVariants.{JoinGame, SpawnPosition, PositionLook}
use Rattle.mc_packets.specs.declared.down.Down.TheVariants.{Disconnect}
use Rattle.mc_model.specs.Packets.{of_play, for_play}
use Rattle.mc_model.proofs.Decodes.{IsClear, play_clear}
use Rattle.mc_model.proofs.FitsText.{IsShort, short_string}
use Rattle.mc_model.proofs.FitsSize.{fields}

-- JoinGame
pub join_clear : (eid most : ℕ) (level : List ℕ) → eid < 2 ^ 31 → most ≤ 50 → IsShort 10 level
    → IsClear for_play (of_play (JoinGame (pos eid) 0 (pos 0) 1 most level false))
join_clear eid most level small few s =
    let text = short_string 10 level (lit≤ tt) s in
    play_clear (JoinGame (pos eid) 0 (pos 0) 1 most level false) (search (fields, text))
    (omega (arith, s.few))

-- SpawnPosition
pub spawn_clear : (height : ℕ) → height < 2 ^ 11
    → IsClear for_play (of_play (SpawnPosition (record { x = pos 8; y = pos height; z = pos 8 })))
spawn_clear height small =
    let cell : Cell = record { x = pos 8; y = pos height; z = pos 8 } in
    let at : FitsCell cell = record { x = lit< tt; y = small; z = lit< tt } in
    play_clear (SpawnPosition cell) (lit< tt, (at, omega (arith, small))) (lit< tt)

-- PositionLook
pub place_clear : (x y z yaw pitch : ℕ) → x < 2 ^ 64 → y < 2 ^ 64 → z < 2 ^ 64 → yaw < 2 ^ 32 →
    pitch < 2 ^ 32
    → IsClear for_play (of_play (PositionLook x y z yaw pitch (pos 0)))
place_clear x y z yaw pitch at_x at_y at_z at_yaw at_pitch =
    play_clear (PositionLook x y z yaw pitch (pos 0)) (search fields) (lit< tt)

-- Disconnect
pub leave_clear : (reason : List ℕ) → IsShort 200 reason →
    IsClear for_play (of_play (Disconnect reason))
leave_clear reason s =
    play_clear (Disconnect reason) (lit< tt, short_string 200 reason (lit≤ tt) s)
    (omega (arith, s.few))
