-- Laws of logs: one behind another, and what follows where each entry is right in the world before
-- it.
use Rattle.std.proofs.Common.{◌≡◌, ℕ, List, [], ◌∷◌, ◌++◌, take, length, refl, arith}
use Rattle.std.proofs.lemmas.Bool.Decides.{nat_tests}
use Rattle.std.specs.Prelude.{true, Some}
use Rattle.std.proofs.lemmas.List.Concat.{flat_map-append}
use Rattle.std.proofs.lemmas.List.Sums.{fold-append}
use Rattle.std.specs.FinMap.{get}
use Rattle.mc_wire.specs.declared.log.LogEntry.{LogEntry}
use Rattle.mc_wire.specs.declared.log.LogEntry.TheVariants.{Put, Closed}
use Rattle.mc_model.specs.Step.{Event}
use Rattle.mc_model.specs.Log.{events_of, events_in, put_by, puts, logged}
use Rattle.mc_model.specs.Link.{Link, is_done}
use Rattle.mc_model.specs.World.{World}
use Rattle.mc_model.specs.Run.{owed_in, taken}
use Rattle.mc_model.specs.Good.{GoodWorld}
use Rattle.mc_laws.proofs.Runs.Worlds.{run_good}

-- ---- one behind another

pub events_more : (log later : List LogEntry) →
    events_in (log ++ later) ≡ events_in log ++ events_in later
events_more log later = flat_map-append events_of log later

pub logged_more : (w : World) (log later : List LogEntry) →
    logged w (log ++ later) ≡ logged (logged w log) later
logged_more w log later = grind (arith, nat_tests, events_more, fold-append)

pub good_logged : (log : List LogEntry) (w : World) → GoodWorld w → GoodWorld (logged w log)
good_logged log w good = run_good w (events_in log) good

-- ---- entries that are right

-- An entry is right in the world before it: what was put to a connection is the first bytes of what
-- it was owed, and one that was closed was done.
abbrev pub IsRight : World → LogEntry → Type 0
IsRight w (Put k bytes) = take (length bytes) (owed_in k w) ≡ bytes
IsRight w (Closed k) = (l : Link) × (get w.links k ≡ Some l) × (is_done l ≡ true)
IsRight w other = Unit {0}

-- each entry of a log is
abbrev pub AreRight : World → List LogEntry → Type 0
AreRight w [] = Unit {0}
AreRight w (entry ∷ log) = IsRight w entry × AreRight (logged w (entry ∷ [])) log

pub right_more : (log later : List LogEntry) (w : World) → AreRight w log →
    AreRight (logged w log) later → AreRight w (log ++ later)
right_more [] later w first second = second
right_more (entry ∷ log) later w first second =
    grind (arith, nat_tests, right_more log later (logged w (entry ∷ [])) first.1, logged_more)

-- the first entries are
pub right_first : (log later : List LogEntry) (w : World) → AreRight w (log ++ later) →
    AreRight w log
right_first [] later w right = tt
right_first (entry ∷ log) later w right =
    (right.0, right_first log later (logged w (entry ∷ [])) right.1)

-- and so is each one, in the world that those before it left
pub right_at : (log : List LogEntry) (entry : LogEntry) (later : List LogEntry) (w : World) →
    AreRight w (log ++ entry ∷ later) → IsRight (logged w log) entry
right_at [] entry later w right = right.0
right_at (first ∷ log) entry later w right =
    grind (arith, nat_tests, right_at log entry later (logged w (first ∷ [])) right.1, logged_more)

-- ---- what was put was taken

put_taken : (k : ℕ) (w : World) (entry : LogEntry) (later : List Event) → IsRight w entry →
    put_by k entry ++ taken k (logged w (entry ∷ [])) later ≡ taken k w (events_of entry ++ later)
put_taken k w entry later right = grind (arith, nat_tests)

-- what a log puts to a connection is what it took
pub puts_taken : (k : ℕ) (log : List LogEntry) (w : World) → AreRight w log →
    puts k log ≡ taken k w (events_in log)
puts_taken k [] w right = refl
puts_taken k (entry ∷ log) w right =
    grind (arith, nat_tests, put_taken, puts_taken k log (logged w (entry ∷ [])) right.1)
