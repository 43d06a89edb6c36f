-- What a run of the program promises, by the command that its arguments name and by how it ends.
-- Rules of this project. A new command is a case of `Leaves`, of `Does`, of `FirstFault` and
-- of `EndsFine`. `Does` and `FirstFault` take the plans of the minds that were handed in.
use Rattle.std.specs.Prelude.{◌≡◌, ℕ, ◌⊎◌, List, Option, None, Some}
use Rattle.std.specs.declared.string.String.{String}
use Rattle.mc_model.specs.Minds.{Plans}
use Rattle.mc_words.specs.declared.bad_input.BadInput.{BadInput}
use Rattle.mc_words.specs.declared.ended.Ended.{Ended}
use Rattle.mc_words.specs.declared.ended.Ended.TheVariants as ended
use Rattle.mc_words.specs.declared.refusal.Refusal.{Refusal}
use Rattle.mc_words.specs.declared.arguments.Command.{Command}
use Rattle.mc_words.specs.declared.arguments.Command.TheVariants.{Status, Replay, Serve, Bot}
use Rattle.mc_words.specs.declared.arguments.Command.TheVariants.{View, Show, Load}
use Rattle.mc_words.specs.Arguments.{command_of, bytes_of}
use Rattle.mc_words.specs.Delivers.{Delivers}
use Rattle.mc_words.specs.Devices.{Devices, InputStays, LinkStays, LobbyStays, streams_of}
use Rattle.mc_words.specs.Ended.{status_of}
use Rattle.mc_status.specs.StatusText.{status_told}
use Rattle.mc_words.specs.Told.{Told}
use Rattle.mc_top.specs.BotPromise.{BotPromise, bot_fault}
use Rattle.mc_top.specs.CapturePromise.{CapturePromise, IsCaptureFault, shown, viewed}
use Rattle.mc_top.specs.LoadPromise.{LoadPromise}
use Rattle.mc_top.specs.ReplayPromise.{Plays, replay_told, start_of}
use Rattle.mc_top.specs.RecordPromise.{ServePromise}

-- the devices that are not a command's own are not touched
abbrev pub Leaves : Command → Devices → Devices → Type 0
Leaves (Status most) before after = LobbyStays before after × LinkStays before after
Leaves (Replay options) before after = LobbyStays before after × LinkStays before after
Leaves (Serve options) before after = InputStays before after × LinkStays before after
Leaves (Bot options) before after = LobbyStays before after
Leaves View before after = LobbyStays before after × LinkStays before after
Leaves (Show client) before after = LobbyStays before after × LinkStays before after
Leaves (Load options) before after =
    LobbyStays before after × LinkStays before after × InputStays before after

-- a command that reads a text and writes another delivers what it tells of that
abbrev pub Tells : (List ℕ → Told) → Ended → Devices → Devices → Type 0
Tells told how before after = Delivers told how (streams_of before) (streams_of after)

-- what it does with its own
abbrev pub Does : Plans → Command → Ended → Devices → Devices → Type 0
Does plans (Status most) how before after = Tells (status_told most) how before after
Does plans (Replay options) how before after =
    Tells (replay_told (start_of plans options)) how before after
    × Plays (start_of plans options) how before.left
Does plans (Serve options) how before after = ServePromise plans options how before after
Does plans (Bot options) how before after = BotPromise options how before after
Does plans View how before after =
    CapturePromise viewed how (streams_of before) (streams_of after)
Does plans (Show client) how before after =
    CapturePromise (shown client) how (streams_of before) (streams_of after)
Does plans (Load options) how before after = LoadPromise options how before after

-- what holds where a command ended so, from the devices before it to those after it
abbrev pub Promises : Plans → Command → Ended → Devices → Devices → Type 0
Promises plans command how before after =
    Leaves command before after × Does plans command how before after

-- what is left of an input is told, and this is its first fault, or there is none
abbrev pub HasFirst : (List ℕ → Option BadInput → Type 0) → Option BadInput → Option (List ℕ) →
    Type 0
HasFirst Fault bad left = (input : List ℕ) × (left ≡ Some input) × Fault input bad

-- so it is with the input of a command, if it reads one
abbrev pub FirstFault : Plans → Command → Option BadInput → Option (List ℕ) → Type 0
FirstFault plans (Status most) bad left =
    HasFirst (λ input bad. (status_told most input).fault ≡ bad) bad left
FirstFault plans (Replay options) bad left =
    HasFirst (λ input bad. (replay_told (start_of plans options) input).fault ≡ bad) bad left
FirstFault plans (Serve options) bad left = ⊥
FirstFault plans (Bot options) bad left = HasFirst (λ input bad. bot_fault input ≡ bad) bad left
FirstFault plans View bad left = HasFirst IsCaptureFault bad left
FirstFault plans (Show client) bad left = HasFirst IsCaptureFault bad left
FirstFault plans (Load options) bad left = ⊥

-- nothing is wrong with its input, or it reads none
abbrev pub IsFineInput : Plans → Command → Option (List ℕ) → Type 0
IsFineInput plans (Serve options) left = Unit {0}
IsFineInput plans (Load options) left = Unit {0}
IsFineInput plans command left = FirstFault plans command None left

-- how a command ends where nothing is wrong with its input, no device fails and memory suffices
abbrev pub EndsFine : Command → Ended → Type 0
EndsFine (Status most) how = how ≡ ended.Done
EndsFine (Replay options) how = how ≡ ended.Done
EndsFine (Serve options) how = (how ≡ ended.Done) ⊎ ((n : ℕ) × (how ≡ ended.Budget n))
EndsFine (Bot options) how = (how ≡ ended.Done)
    ⊎ ((how ≡ ended.Budget options.patience) ⊎ ((why : Refusal) × (how ≡ ended.Refused why)))
EndsFine View how = how ≡ ended.Done
EndsFine (Show client) how = how ≡ ended.Done
EndsFine (Load options) how = how ≡ ended.Done

-- the arguments name no command with its options
abbrev pub NamesNone : {Z : Type 0} → List (String Z) → Type 0
NamesNone arguments = command_of (bytes_of arguments) ≡ None

-- a command ended with this status, and what it promises of that holds
abbrev pub KeepsPromise : Plans → Command → ℕ → Devices → Devices → Type 0
KeepsPromise plans command status before after =
    (ended : Ended) × (status ≡ status_of ended) × Promises plans command ended before after

-- the statuses that a run may answer
abbrev pub IsStatus : ℕ → Type 0
IsStatus status = (ended : Ended) × (status ≡ status_of ended)
