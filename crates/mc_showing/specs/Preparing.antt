-- What making columns ready for clients does to a game, and for which it is done. Rules of this
-- project.
use Rattle.std.specs.Prelude.{◌≡◌, ℕ, Some}
use Rattle.std.specs.List.{AllByRecursion}
use Rattle.std.specs.FinMap.{get}
use Rattle.mc_land.specs.Places.{Place}
use Rattle.mc_loads.specs.Columns.{IsReady}
use Rattle.mc_flush.specs.Seeing.{MarkValue}
use Rattle.mc_model.specs.declared.player.Player.{Player}
use Rattle.mc_play.specs.Kept.{GameValue, land_of}
use Rattle.mc_showing.specs.Around.{new_columns}

-- nothing but more columns are ready
pub record Prepares (old new : GameValue) : Type 0 where
  pub game : new.game ≡ old.game
  pub settled : new.settled ≡ old.settled
  pub grown : (place : Place) → IsReady (land_of old) place → IsReady (land_of new) place

-- the columns that the client of a connection is to be shown and was not are ready, if it has a
-- player
abbrev pub IsReadyFor : GameValue → ℕ → MarkValue → Type 0
IsReadyFor v connection mark = (p : Player) → get v.game.players connection ≡ Some p →
    AllByRecursion (IsReady (land_of v)) (new_columns v.game p mark)
