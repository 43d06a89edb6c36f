-- The line that tells what a generated load comes to, and what holds of all that happens in one.
-- Rules of this project: after each event of the load every client takes all that it is owed, and
-- those that are closed are forgotten.
use Rattle.std.specs.Prelude.{◌≡◌, ◌≢◌, ℕ, List, [], ◌∷◌, ◌++◌, length, codes, decimal, Some}
use Rattle.std.specs.List.{range_with_len, sum_by}
use Rattle.mc_land.specs.declared.terrain.Terrain.TheVariants.{Flat}
use Rattle.mc_model.specs.declared.cause.Cause.TheVariants.{Backlog}
use Rattle.mc_model.specs.declared.settings.Settings.{Settings}
use Rattle.mc_model.specs.Headline.{Headline}
use Rattle.mc_model.specs.Minds.{Start, without_mobs}
use Rattle.mc_model.specs.Run.{stream, taken, why}
use Rattle.mc_model.specs.Step.{Event}
use Rattle.mc_model.specs.World.{World, new_world}
use Rattle.mc_play.specs.declared.census.Census.{Census}
use Rattle.mc_play.specs.Census.{census_of}
use Rattle.mc_load.specs.Load.{load_events}
use Rattle.mc_measure.specs.Settling.{settled_log, settled_world}

-- ---- the run

-- a flat world without mobs, for so many players and a view of two columns on each side
abbrev pub load_settings : ℕ → Settings
load_settings n = record { players = n; cap = 2; terrain = Flat }

abbrev pub load_start : ℕ → Start
load_start n = without_mobs (load_settings n)

abbrev pub before_load : ℕ → World
before_load n = new_world (load_start n)

-- all that happens, and the world after it
abbrev pub load_log : ℕ → ℕ → List Event
load_log n ticks = settled_log (before_load n) (load_events n ticks)

abbrev pub after_load : ℕ → ℕ → World
after_load n ticks = settled_world (before_load n) (load_events n ticks)

-- ---- what it comes to

-- the bytes that one client was handed, and how many all clients were
abbrev pub client_bytes : ℕ → ℕ → ℕ → List ℕ
client_bytes n ticks i = stream i (before_load n) (load_log n ticks)

unfoldable pub load_bytes : ℕ → ℕ → ℕ
load_bytes n ticks = sum_by (λ (i : ℕ). length (client_bytes n ticks i)) (range_with_len 0 n)

-- the cells that were changed, and the items that there are
unfoldable pub load_census : ℕ → ℕ → Census
load_census n ticks = census_of (after_load n ticks).game

-- the line: how large the load is, and what it comes to
abbrev pub load_size : ℕ → ℕ → List ℕ
load_size n ticks =
    codes "clients=" ++ decimal n ++ codes " ticks=" ++ decimal ticks ++ codes " events="
    ++ decimal (length (load_events n ticks))

abbrev pub load_outcome : Census → ℕ → List ℕ
load_outcome census bytes =
    codes " edits=" ++ decimal census.edits ++ codes " stock=" ++ decimal census.stock
    ++ codes " bytes=" ++ decimal bytes ++ 10 ∷ []

unfoldable pub load_text : ℕ → ℕ → List ℕ
load_text n ticks =
    load_size n ticks ++ load_outcome (load_census n ticks) (load_bytes n ticks)

-- ---- what holds of all that happens

-- The whole promise about a run holds of a load, and each client took all that it was handed: none
-- was closed since its outbox was too small.
pub record KeepsAll (n ticks : ℕ) : Type 0 where
  pub promise : Headline (load_start n) (load_log n ticks)
  pub kept : (i : ℕ) → why i (before_load n) (load_log n ticks) ≢ Some Backlog
  pub whole : (i : ℕ) → taken i (before_load n) (load_log n ticks) ≡ client_bytes n ticks i
