-- What `serve` promises where it writes a capture, by how it ends: all of the capture of what the
-- lobby's log tells, and no last line, or some first part of it where the output failed or memory ran
-- out. Rules of this project.
use Rattle.std.specs.Prelude.{◌≡◌, ℕ, Bool, true, false, List, ◌++◌, take, Option, Some, Ok}
use Rattle.mc_wire.specs.declared.log.LogEntry.{LogEntry}
use Rattle.mc_wire.specs.Count.{Rose}
use Rattle.mc_wire.specs.LobbyTold.{LobbyTold}
use Rattle.mc_capture.specs.Tape.{tape}
use Rattle.mc_model.specs.Minds.{Plans}
use Rattle.mc_server.specs.declared.service.Ended as drives
use Rattle.mc_words.specs.declared.arguments.ServeOptions.{ServeOptions}
use Rattle.mc_words.specs.declared.ended.Ended.{Ended}
use Rattle.mc_words.specs.declared.ended.Ended.TheVariants as ended
use Rattle.mc_words.specs.Devices.{Devices}
use Rattle.mc_top.specs.ServePromise.{HasLost, HasServed, HasServedPart, HasSpent}
use Rattle.mc_top.specs.ServePromise.{Sums}

-- where the lobby and the output still tell theirs: these entries were added to the log, and this
-- was written
pub record Tapes (told told' : Option LobbyTold) (held held' : Option (List ℕ))
    (Wrote : List ℕ → List ℕ → Type 0) : Type 0 where
  pub tapes : (a b : LobbyTold) (xs ys : List ℕ) → told ≡ Some a → told' ≡ Some b →
      held ≡ Some xs → held' ≡ Some ys → (log : List LogEntry) × (b.log ≡ a.log ++ log)
      × (bytes : List ℕ) × (ys ≡ xs ++ bytes) × Wrote (tape log) bytes

-- all of its capture
abbrev pub TapesAll : Option LobbyTold → Option LobbyTold → Option (List ℕ) → Option (List ℕ) →
    Type 0
TapesAll told told' held held' = Tapes told told' held held' (λ all bytes. bytes ≡ all)

-- some first part of it
abbrev pub TapesPart : Option LobbyTold → Option LobbyTold → Option (List ℕ) → Option (List ℕ) →
    Type 0
TapesPart told told' held held' =
    Tapes told told' held held' (λ all bytes. (n : ℕ) × (bytes ≡ take n all))

-- what holds where it ended so
abbrev pub Records : Plans → ServeOptions → Ended → Devices → Devices → Type 0
Records plans options ended.Done before after =
    ((end : drives.Ended) × HasServed plans options before.told after.told (Ok end))
    × TapesAll before.told after.told before.held after.held
Records plans options ended.NoMemory before after =
    HasServedPart plans options before.told after.told
    × TapesPart before.told after.told before.held after.held
Records plans options ended.WriteFault before after =
    Rose before.write_faults after.write_faults
    × HasServedPart plans options before.told after.told
    × TapesPart before.told after.told before.held after.held
Records plans options ended.NetFault before after =
    Rose before.counts.faults after.counts.faults × HasLost plans options before.told after.told
    × TapesAll before.told after.told before.held after.held
Records plans options (ended.Budget n) before after =
    HasSpent plans options n before.told after.told
    × TapesAll before.told after.told before.held after.held
Records plans options other before after = ⊥

-- ---- with a capture or without

abbrev pub ServesBy : Bool → Plans → ServeOptions → Ended → Devices → Devices → Type 0
ServesBy true plans options how before after = Records plans options how before after
ServesBy false plans options how before after = Sums plans options how before after

abbrev pub ServePromise : Plans → ServeOptions → Ended → Devices → Devices → Type 0
ServePromise plans options how before after =
    ServesBy options.capture plans options how before after
