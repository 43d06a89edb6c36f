-- Players that a packet of the list of players can carry.
use Rattle.std.specs.Prelude.{◌≤◌, length}
use lib.IntN.{ℤ}
use Rattle.mc_packets.specs.declared.player.Player.{Player}
use Rattle.mc_packets.specs.PlayerChange.{player_wire}

-- a player that has a spelling, of not too many bytes
pub record IsCarried (action : ℤ) (p : Player) : Type 0 where
  pub fits : (player_wire action).fits p
  pub few : length ((player_wire action).spelling p) ≤ 110
