-- What `bot` promises, by how it ends. Rules of this project.
use Rattle.std.specs.Prelude.{◌≡◌, ℕ, ◌<◌, ◌⊎◌, List, [], ◌∷◌, Option, Some, None, IfSome, Result}
use Rattle.std.specs.Prelude.{Ok, Err}
use Rattle.mc_frame.specs.Cut.{Cut, IsCut}
use Rattle.mc_model.specs.Replica.{Replica, new_replica}
use Rattle.mc_replica.specs.Dump.{dump_text}
use Rattle.mc_wire.specs.Count.{Rose}
use Rattle.mc_wire.specs.LinkTold.{Exchanges}
use Rattle.mc_wire.specs.Stream.{Grows, IsAtEnd}
use Rattle.mc_bot.specs.declared.bot_fault.BotFault.{BotFault}
use Rattle.mc_bot.specs.declared.bot_fault.BotFault.TheVariants as bot_faults
use Rattle.mc_bot.specs.declared.script.ScriptFault.{ScriptFault}
use Rattle.mc_bot.specs.declared.script.ScriptKind.{ScriptKind}
use Rattle.mc_bot.specs.declared.script.ScriptKind.TheVariants as kinds
use Rattle.mc_bot.specs.Played.{IsBegun, replica_rules}
use Rattle.mc_bot.specs.Playing.{BotEnd, Course, ahead_of, all_sent, ended_with, ends, played_out}
use Rattle.mc_bot.specs.Playing.{refused_for, waiting}
use Rattle.mc_bot.specs.Script.{ScriptValue, script_of}
use Rattle.mc_words.specs.declared.arguments.BotOptions.{BotOptions}
use Rattle.mc_words.specs.declared.bad_input.BadInput.{BadInput}
use Rattle.mc_words.specs.declared.bad_input.InputFault.{InputFault}
use Rattle.mc_words.specs.declared.bad_input.InputFault.TheVariants as faults
use Rattle.mc_words.specs.declared.ended.Ended.{Ended}
use Rattle.mc_words.specs.declared.ended.Ended.TheVariants as ended
use Rattle.mc_words.specs.declared.refusal.Refusal.TheVariants as refusals
use Rattle.mc_text.specs.Lines.{IsTextRead}
use Rattle.mc_words.specs.Devices.{Devices, LinkDevice, Streams, WroteLast, streams_of}
use Rattle.mc_words.specs.Ended.{bad_input_line, budget_line, net_fault_line, read_fault_line}
use Rattle.mc_words.specs.Ended.{refused_line}
use Rattle.mc_text.specs.Passes.{SendsPart}

-- ---- its input

abbrev pub kind_of : ScriptKind → InputFault
kind_of kinds.Word = faults.Word
kind_of kinds.Number = faults.Number
kind_of kinds.Hex = faults.Hex
kind_of kinds.Order = faults.Order
kind_of kinds.Long = faults.Long

abbrev pub bad_of : ScriptFault → BadInput
bad_of fault = record { at = fault.line; kind = kind_of fault.kind }

abbrev pub fault_in : Result ScriptValue ScriptFault → Option BadInput
fault_in (Ok script) = None
fault_in (Err fault) = Some (bad_of fault)

-- the first fault of an input, or none where it is a script
abbrev pub bot_fault : List ℕ → Option BadInput
bot_fault input = fault_in (script_of input)

-- the input is this script, and was read to its end
pub record IsScript (script : ScriptValue) (left left' : Option (List ℕ)) : Type 0 where
  pub input : List ℕ
  pub left_is : IfSome left (λ (l : List ℕ). l ≡ input)
  pub is : script_of input ≡ Ok script
  pub read : IsAtEnd left'

-- the input is no script, of which this is the first fault; it was read to its end or until it was
-- too long
pub record IsNoScript (bad : BadInput) (left left' : Option (List ℕ)) : Type 0 where
  pub input : List ℕ
  pub left_is : IfSome left (λ (l : List ℕ). l ≡ input)
  pub is : bot_fault input ≡ Some bad
  pub read : IsTextRead left left'

-- ---- its play

-- how the command ends where the play of its script was answered so
abbrev pub ended_by_play : Result (Unit {0}) BotFault → Ended
ended_by_play (Ok done) = ended.Done
ended_by_play (Err bot_faults.Link) = ended.NetFault
ended_by_play (Err bot_faults.Write) = ended.WriteFault
ended_by_play (Err (bot_faults.Closed reason)) = ended.Refused refusals.Closed
ended_by_play (Err (bot_faults.Frame fault)) = ended.Refused refusals.Frame
ended_by_play (Err (bot_faults.Packet fault count)) = ended.Refused refusals.Packet
ended_by_play (Err (bot_faults.Body fault)) = ended.Refused refusals.Body
ended_by_play (Err (bot_faults.Patience n)) = ended.Budget n
ended_by_play (Err (bot_faults.Expect line want have)) =
    ended.Refused (refusals.Expect line want have)
ended_by_play (Err bot_faults.NoMemory) = ended.NoMemory

-- The script of the input was played: the link was asked to connect once, to the port alone; it
-- gave some bytes, and took these. By the one cut of those that it gave, this holds of the play of
-- the script, which begins with an empty replica, and of what the link took.
pub record IsPlayed (options : BotOptions) (link link' : LinkDevice)
    (left left' : Option (List ℕ)) (Holds : Course Replica → List ℕ → Type 0) : Type 0 where
  pub script : ScriptValue
  pub is_script : IsScript script left left'
  pub given : List ℕ
  pub sent : List ℕ
  pub exchanged : Exchanges link.told link'.told (options.port ∷ []) given sent
  pub cut : Cut
  pub is_cut : IsCut given cut
  pub holds : Holds (played_out replica_rules new_replica script options.port
      (ahead_of cut link'.stage.ended)) sent

-- the play ended so, and the link took all that is sent in it; fewer reads were quiet in turn than
-- there is patience for
abbrev pub Ends : BotOptions → LinkDevice → BotEnd Replica → Course Replica → List ℕ → Type 0
Ends options link' end_ course sent =
    (course ≡ ends end_ sent) × (link'.stage.quiet_run < options.patience)

-- it waits for a packet that has not come, and the link took all that is sent until then; so many
-- reads were quiet in turn as there is patience for
abbrev pub Waits : BotOptions → LinkDevice → Course Replica → List ℕ → Type 0
Waits options link' course sent =
    (course ≡ ends waiting sent) × (link'.stage.quiet_run ≡ options.patience)

-- the link took some first part of what is sent in the play
abbrev pub Begins : Course Replica → List ℕ → Type 0
Begins course sent = IsBegun sent (all_sent course)

-- nothing was written, or the play ended with a replica, and some first part of its dump was
abbrev pub DumpsPart : Option (List ℕ) → Option (List ℕ) → Course Replica → List ℕ → Type 0
DumpsPart held held' course sent = (held' ≡ held)
    ⊎ ((seen : Replica) × (course ≡ ends (ended_with seen) sent)
    × SendsPart held held' (dump_text seen))

-- ---- how it ended; `Wrote line` says what was written where that is at most a last line

abbrev pub BotEnds : (List ℕ → Type 0) → BotOptions → Ended → LinkDevice → LinkDevice → Streams →
    Streams → Type 0
BotEnds Wrote options ended.Done link link' before after = (seen : Replica)
    × IsPlayed options link link' before.left after.left (Ends options link' (ended_with seen))
    × Grows before.held after.held (dump_text seen)
BotEnds Wrote options ended.NoMemory link link' before after =
    ((link' ≡ link) × (after.held ≡ before.held))
    ⊎ IsPlayed options link link' before.left after.left
    (λ course sent. Begins course sent × DumpsPart before.held after.held course sent)
BotEnds Wrote options ended.Usage link link' before after = ⊥
BotEnds Wrote options ended.ReadFault link link' before after =
    Rose before.read_faults after.read_faults × (link' ≡ link) × Wrote read_fault_line
BotEnds Wrote options ended.WriteFault link link' before after = (seen : Replica)
    × Rose before.write_faults after.write_faults
    × IsPlayed options link link' before.left after.left (Ends options link' (ended_with seen))
    × SendsPart before.held after.held (dump_text seen)
BotEnds Wrote options ended.NetFault link link' before after =
    Rose link.counts.faults link'.counts.faults
    × IsPlayed options link link' before.left after.left Begins × Wrote net_fault_line
BotEnds Wrote options (ended.BadInput bad) link link' before after =
    IsNoScript bad before.left after.left × (link' ≡ link) × Wrote (bad_input_line bad)
BotEnds Wrote options (ended.Budget n) link link' before after = (n ≡ options.patience)
    × IsPlayed options link link' before.left after.left (Waits options link')
    × Wrote (budget_line n)
BotEnds Wrote options (ended.Refused why) link link' before after = (fault : BotFault)
    × (ended_by_play (Err fault) ≡ ended.Refused why)
    × IsPlayed options link link' before.left after.left (Ends options link' (refused_for fault))
    × Wrote (refused_line why)

-- what holds where `bot` ended so
abbrev pub BotPromise : BotOptions → Ended → Devices → Devices → Type 0
BotPromise options how before after = BotEnds (λ line. WroteLast before.held after.held
    before.write_faults after.write_faults line) options how before.link after.link
    (streams_of before) (streams_of after)
