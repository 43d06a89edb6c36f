-- Where a player that moves or looks about comes to be. Rules of this project.
use Rattle.std.specs.Prelude.{ℕ, true, Option, option_map, if◌then◌else◌}
use Rattle.std.specs.Option.{option_and_then}
use lib.IntN.{ℤ}
use Rattle.mc_fields.specs.declared.position.Spot.{Spot}
use Rattle.mc_entities.specs.Shift.{is_inside}
use Rattle.mc_model.specs.declared.notes.Notes.{Notes}
use Rattle.mc_model.specs.declared.player.Player.{Player}
use Rattle.mc_model.specs.Numbers.{fixed_of, turn_of}
use Rattle.mc_model.specs.Spots.{spawn_spot}
use Rattle.mc_model.specs.Game.{Game}
use Rattle.mc_model.specs.Deeds.{noting, stand_of}

-- f of two values, where both are there
abbrev pub both : {A B C : Type 0} → (A → B → C) → Option A → Option B → Option C
both f a b = option_and_then (λ x. option_map (f x) b) a

-- a spot moved to a place given by patterns; none where one of them stands for no number
abbrev pub moved : Spot → ℕ → ℕ → ℕ → Option Spot
moved spot x y z =
    option_and_then (λ (east : ℤ).
    both (λ (up south : ℤ). record spot { x = east; y = up; z = south }) (fixed_of y) (fixed_of z))
    (fixed_of x)

-- likewise turned
abbrev pub turned : Spot → ℕ → ℕ → Option Spot
turned spot yaw pitch =
    both (λ (about up : ℕ). record spot { yaw = about; pitch = up }) (turn_of yaw) (turn_of pitch)

-- its place is to be sent to it
abbrev pub placed_again : Notes → Notes
placed_again notes = record notes { placing = true }

-- a player goes somewhere: out of the range it is put where players enter, and it is told so
abbrev pub arrived : ℕ → Player → Game → Spot → Game
arrived k p g spot =
    if is_inside spot then stand_of p spot g
    else noting placed_again k (stand_of p (spawn_spot g.settings.terrain) g)

-- none where there is no spot
abbrev pub arrive : ℕ → Player → Option Spot → Game → Option Game
arrive k p spot g = option_map (arrived k p g) spot
