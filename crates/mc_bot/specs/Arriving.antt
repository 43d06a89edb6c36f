-- What comes of a link, as a bot keeps it: what reading once, and taking the next frame, come to.
use Rattle.std.specs.Prelude.{◌≡◌, ℕ, ◌+◌, ◌-◌, ◌*◌, ◌<◌, ◌≤◌, ◌⊎◌, true, false, List, []}
use Rattle.std.specs.Prelude.{◌++◌, length, Option, None, Some, Result, Ok, Err}
use Rattle.mc_bytes.specs.Reading.{IsBytes}
use Rattle.mc_frame.specs.Cut.{IsPart, Ends}
use Rattle.mc_frame.specs.Held.{Splitting, nothing_held}
use Rattle.mc_frame.specs.Splitting.{TakesFrame, held_max}
use Rattle.mc_wire.specs.declared.got.Got.{Got}
use Rattle.mc_wire.specs.declared.got.Got.TheVariants.{Bytes}
use Rattle.mc_wire.specs.LinkStage.{LinkStage}
use Rattle.mc_wire.specs.LinkTold.{LinkTold, Exchanges}
use Rattle.mc_bot.specs.declared.bot_fault.BotFault.{BotFault}
use Rattle.mc_bot.specs.declared.bot_fault.BotFault.TheVariants as faults

-- what calls add to what a link tells, which gave only bytes
abbrev pub HasPassed : Option LinkTold → Option LinkTold → List ℕ → List ℕ → List ℕ → Type 0
HasPassed old new asked given sent = Exchanges old new asked given sent × IsBytes given

-- the splitter, the run of quiet reads, and how many of them are too many
pub record Arriving : Type 0 where
  pub splitting : Splitting
  pub quiets : ℕ
  pub patience : ℕ

-- of a link that gave nothing yet
abbrev pub nothing_came : ℕ → Arriving
nothing_came patience = record { splitting = nothing_held; quiets = 0; patience = patience }

-- the splitter holds more
abbrev pub holding : Splitting → List ℕ → Splitting
holding splitting given = record splitting { held = splitting.held ++ given }

-- it goes with a link that can be read, and no fault was met
pub record GoesWith (now : Arriving) (stage : LinkStage) : Type 0 where
  pub connected : stage.connected ≡ true
  pub open_ : stage.ended ≡ false
  pub run : stage.quiet_run ≡ now.quiets
  pub few : now.quiets ≤ now.patience
  pub fine : now.splitting.fault ≡ None

-- the patience has not run out, or no whole frame is held
abbrev pub IsPatient : Arriving → Type 0
IsPatient now = (now.quiets < now.patience) ⊎ IsPart now.splitting.held

-- how much may still come: what is held, and for each answer with bytes what a splitter may hold
abbrev pub to_come : ℕ → Splitting → ℕ
to_come answers splitting = answers * (held_max + 1) + length splitting.held

-- how often may still be read: for each answer with bytes there may be quiet reads before it
abbrev pub tries : ℕ → Arriving → ℕ
tries answers now = answers * (now.patience + 1) + (now.patience - now.quiets)

-- what one read of the link gave a splitter, which holds it where there was memory
abbrev pub GotAs : Splitting → Splitting → List ℕ → Result Got BotFault → Type 0
GotAs old new given (Ok (Bytes n)) = (new ≡ holding old given) × (length new.held ≤ held_max)
GotAs old new given (Ok other) = (new ≡ old) × (given ≡ [])
GotAs old new given (Err fault) = (fault ≡ faults.Link) ⊎ (fault ≡ faults.NoMemory)

pub record HasGot (old new : Splitting) (told told' : Option LinkTold)
    (result : Result Got BotFault) : Type 0 where
  pub given : List ℕ
  pub exchanged : HasPassed told told' [] given []
  pub came : GotAs old new given result

-- bytes are an answer less to give, and no answer is one more
abbrev pub HasTries : Result Got BotFault → ℕ → ℕ → Type 0
HasTries (Ok (Bytes n)) old new = new < old
HasTries other old new = new ≤ old

-- what a read came to, which gave these bytes
abbrev pub ReadAs : Arriving → Arriving → List ℕ → LinkStage → Result (Unit {0}) BotFault → Type 0
ReadAs old new given stage (Ok done) = (new.splitting ≡ holding old.splitting given)
    × (new.patience ≡ old.patience) × GoesWith new stage × IsPatient new
ReadAs old new given stage (Err faults.Link) = Unit {0}
ReadAs old new given stage (Err faults.NoMemory) = Unit {0}
ReadAs old new given stage (Err (faults.Closed reason)) = (reason ≡ []) × (given ≡ [])
    × (stage.ended ≡ true) × (stage.quiet_run < old.patience)
ReadAs old new given stage (Err (faults.Patience n)) = (n ≡ old.patience) × (given ≡ [])
    × (stage.ended ≡ false) × (stage.quiet_run ≡ old.patience)
ReadAs old new given stage (Err other) = ⊥

pub record HasRead (old new : Arriving) (told told' : Option LinkTold) (stage : LinkStage)
    (result : Result (Unit {0}) BotFault) : Type 0 where
  pub given : List ℕ
  pub exchanged : HasPassed told told' [] given []
  pub came : ReadAs old new given stage result

-- what taking the next frame came to, for which these bytes were read
abbrev pub NextAs : Arriving → Arriving → List ℕ → LinkStage → Result (List ℕ) BotFault → Type 0
NextAs old new given stage (Ok payload) =
    TakesFrame (holding old.splitting given) payload new.splitting
    × (new.patience ≡ old.patience) × GoesWith new stage × (new.quiets < new.patience)
NextAs old new given stage (Err faults.Link) = Unit {0}
NextAs old new given stage (Err faults.NoMemory) = Unit {0}
NextAs old new given stage (Err (faults.Frame fault)) =
    Ends old.splitting.before (old.splitting.held ++ given) (Some fault)
    × (stage.quiet_run < old.patience)
NextAs old new given stage (Err (faults.Closed reason)) = (reason ≡ [])
    × IsPart (old.splitting.held ++ given) × (stage.ended ≡ true)
    × (stage.quiet_run < old.patience)
NextAs old new given stage (Err (faults.Patience n)) = (n ≡ old.patience)
    × IsPart (old.splitting.held ++ given) × (stage.ended ≡ false)
    × (stage.quiet_run ≡ old.patience)
NextAs old new given stage (Err other) = ⊥

pub record HasNext (old new : Arriving) (told told' : Option LinkTold) (stage : LinkStage)
    (result : Result (List ℕ) BotFault) : Type 0 where
  pub given : List ℕ
  pub exchanged : HasPassed told told' [] given []
  pub came : NextAs old new given stage result
