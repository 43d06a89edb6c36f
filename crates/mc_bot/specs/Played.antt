-- What the play of a script answers: what the link was asked, gave and took, how the script ended,
-- and what the sink got. Rules of this project.
use Rattle.std.specs.Prelude.{◌≡◌, ℕ, ◌<◌, ◌⊎◌, List, [], ◌∷◌, ◌++◌, Option, Result, Ok, Err}
use Rattle.mc_frame.specs.Cut.{Cut, IsCut}
use Rattle.mc_model.specs.Replica.{Replica, apply}
use Rattle.mc_replica.specs.Asking.{frame_of}
use Rattle.mc_replica.specs.Blocks.{block_in}
use Rattle.mc_replica.specs.Dump.{dump_text}
use Rattle.mc_replica.specs.Faults.{fault_in}
use Rattle.mc_replica.specs.Slots.{number_of, open_slot, window_of}
use Rattle.mc_wire.specs.LinkStage.{LinkStage}
use Rattle.mc_wire.specs.LinkTold.{LinkTold, Exchanges}
use Rattle.mc_wire.specs.Stream.{Grows}
use Rattle.mc_text.specs.Passes.{SendsPart}
use Rattle.mc_bot.specs.declared.bot_fault.BotFault.{BotFault}
use Rattle.mc_bot.specs.declared.bot_fault.BotFault.TheVariants as faults
use Rattle.mc_bot.specs.Arriving.{HasPassed}
use Rattle.mc_bot.specs.Playing.{SeerRules, rules_of, Course, ends, ended_with, refused_for}
use Rattle.mc_bot.specs.Playing.{waiting, ahead_of, all_sent, played_out}
use Rattle.mc_bot.specs.Script.{ScriptValue}

-- what follows the server in a play that has no other: a replica
abbrev pub replica_rules : SeerRules Replica
replica_rules = rules_of fault_in apply (λ r packet. r) (λ r packet. frame_of packet)
    (λ r cell. block_in r.sight.columns cell.x cell.y cell.z)
    (λ r i. open_slot (window_of r.sight) i) (λ r. number_of r.sight.window) dump_text

-- what a play begins with
pub record PlayStart (S : Type 0) : Type 0 where
  pub rules : SeerRules S
  pub seen : S
  pub script : ScriptValue
  pub port : ℕ
  pub patience : ℕ
  pub told : Option LinkTold
  pub held : Option (List ℕ)

-- what it leaves
pub record PlayLeft (S : Type 0) : Type 0 where
  pub seen : S
  pub told : Option LinkTold
  pub stage : LinkStage
  pub held : Option (List ℕ)

-- some first part of some bytes
abbrev pub IsBegun : List ℕ → List ℕ → Type 0
IsBegun part all = (more : List ℕ) × (all ≡ part ++ more)

-- The script ended as the play answers, and these are all bytes that were sent: it came to its end,
-- or to what refuses it, or it waits and so many reads were quiet in a row as it has patience for,
-- and else were not. Where the link failed or memory ran out, some first part of them was sent.
abbrev pub EndsAs : {S : Type 0} → Course S → List ℕ → S → ℕ → ℕ → Result (Unit {0}) BotFault →
    Type 0
EndsAs course sent seen patience run (Ok done) =
    (course ≡ ends (ended_with seen) sent) × (run < patience)
EndsAs course sent seen patience run (Err faults.Write) =
    (course ≡ ends (ended_with seen) sent) × (run < patience)
EndsAs course sent seen patience run (Err (faults.Patience n)) =
    (course ≡ ends waiting sent) × (n ≡ patience) × (run ≡ patience)
EndsAs course sent seen patience run (Err faults.Link) = IsBegun sent (all_sent course)
EndsAs course sent seen patience run (Err faults.NoMemory) = IsBegun sent (all_sent course)
EndsAs course sent seen patience run (Err refusal) =
    (course ≡ ends (refused_for refusal) sent) × (run < patience)

-- a play ended so, with these bytes sent
abbrev pub FailsAs : {S : Type 0} → Course S → List ℕ → ℕ → ℕ → BotFault → Type 0
FailsAs course sent patience run (faults.Patience n) =
    (course ≡ ends waiting sent) × (n ≡ patience) × (run ≡ patience)
FailsAs course sent patience run faults.Link = IsBegun sent (all_sent course)
FailsAs course sent patience run faults.NoMemory = IsBegun sent (all_sent course)
FailsAs course sent patience run faults.Write = ⊥
FailsAs course sent patience run refusal =
    (course ≡ ends (refused_for refusal) sent) × (run < patience)

-- The sink got the dump, or some first part of it where it failed, and else nothing. Where memory
-- ran out, it may have got such a part once the script had come to its end.
abbrev pub DumpsAs : Type 0 → Type 0 → Option (List ℕ) → Option (List ℕ) → List ℕ →
    Result (Unit {0}) BotFault → Type 0
DumpsAs untouched ended held held' dump (Ok done) = Grows held held' dump
DumpsAs untouched ended held held' dump (Err faults.Write) = SendsPart held held' dump
DumpsAs untouched ended held held' dump (Err faults.NoMemory) =
    untouched ⊎ (ended × SendsPart held held' dump)
DumpsAs untouched ended held held' dump (Err other) = untouched

-- The link was asked to connect once, to the port; it gave some bytes, and took some others. By the
-- one cut of those that it gave, the play is that of the script, and it is answered so.
pub record HasPlayedScript {S : Type 0} (start : PlayStart S) (left_ : PlayLeft S)
    (untouched : Type 0) (result : Result (Unit {0}) BotFault) : Type 0 where
  pub given : List ℕ
  pub sent : List ℕ
  pub exchanged : Exchanges start.told left_.told (start.port ∷ []) given sent
  pub cut : Cut
  pub is_cut : IsCut given cut
  pub ended : EndsAs (played_out start.rules start.seen start.script start.port
      (ahead_of cut left_.stage.ended)) sent left_.seen start.patience left_.stage.quiet_run result
  pub dumped : DumpsAs untouched
      (played_out start.rules start.seen start.script start.port (ahead_of cut left_.stage.ended)
      ≡ ends (ended_with left_.seen) sent) start.held left_.held
      (start.rules.dumps left_.seen) result

-- ---- up to the end of the script

-- before the dump: a play that came to its end goes on with it
abbrev pub RunsAs : {S : Type 0} → Course S → List ℕ → S → ℕ → ℕ → Result (Unit {0}) BotFault →
    Type 0
RunsAs course sent seen patience run (Ok done) =
    (course ≡ ends (ended_with seen) sent) × (run < patience)
RunsAs course sent seen patience run (Err fault) = FailsAs course sent patience run fault

pub record HasRun {S : Type 0} (start : PlayStart S) (left_ : PlayLeft S)
    (result : Result (Unit {0}) BotFault) : Type 0 where
  pub given : List ℕ
  pub sent : List ℕ
  pub exchanged : HasPassed start.told left_.told (start.port ∷ []) given sent
  pub ended : (cut : Cut) → IsCut given cut →
      RunsAs (played_out start.rules start.seen start.script start.port
      (ahead_of cut left_.stage.ended)) sent left_.seen start.patience left_.stage.quiet_run result

abbrev pub SentAs : List ℕ → List ℕ → Result (Unit {0}) BotFault → Type 0
SentAs bytes sent (Ok done) = sent ≡ bytes
SentAs bytes sent (Err faults.Link) = IsBegun sent bytes
SentAs bytes sent (Err faults.NoMemory) = IsBegun sent bytes
SentAs bytes sent (Err other) = ⊥

-- some bytes were sent, or some first part of them where the link failed or memory ran out
pub record HasSent (bytes : List ℕ) (told told' : Option LinkTold)
    (result : Result (Unit {0}) BotFault) : Type 0 where
  pub sent : List ℕ
  pub exchanged : HasPassed told told' [] [] sent
  pub came : SentAs bytes sent result
