-- What some steps of a bot came to, over what was read for them: the play that they belong to goes
-- on as what is left of it, or ended so.
use Rattle.std.specs.Prelude.{◌≡◌, ℕ, ◌+◌, ◌<◌, Bool, true, false, List, [], ◌++◌, length}
use Rattle.std.specs.Prelude.{Option, Some, None, Result, Ok, Err}
use lib.IntN.{ℤ, pos}
use Rattle.mc_fields.specs.declared.packet.PacketFault.{PacketFault}
use Rattle.mc_frame.specs.declared.fault.FrameFault.{FrameFault}
use Rattle.mc_hello.specs.declared.login_down.LoginDown.{LoginDown}
use Rattle.mc_hello.specs.declared.login_down.LoginDown.TheVariants as login
use Rattle.mc_frame.specs.Cut.{Cut, IsCutAt, SpellsFrames, kept_count}
use Rattle.mc_packets.specs.declared.down.Down.{Down}
use Rattle.mc_wire.specs.Count.{raised}
use Rattle.mc_wire.specs.LinkStage.{LinkStage}
use Rattle.mc_wire.specs.LinkTold.{LinkTold}
use Rattle.mc_bot.specs.declared.bot_fault.BotFault.{BotFault}
use Rattle.mc_bot.specs.declared.bot_fault.BotFault.TheVariants as faults
use Rattle.mc_bot.specs.Arriving.{Arriving, GoesWith, HasPassed, nothing_came}
use Rattle.mc_bot.specs.Playing.{SeerRules, Ahead, Bot, Course, goes, ends, ended_with, is_state}
use Rattle.mc_bot.specs.Played.{FailsAs}

-- what a bot keeps beside what follows the server: what comes of the link, how many packets were
-- read, and the number of the next click
pub record Keeping : Type 0 where
  pub incoming : Arriving
  pub read : ℕ
  pub number : ℤ

-- before the answer to the login
abbrev pub not_logged_in : ℕ → Keeping
not_logged_in patience = record { incoming = nothing_came patience; read = 0; number = pos 1 }

-- a bot as it stands: what follows the server, what it keeps, and what the link tells
pub record Standing (S : Type 0) : Type 0 where
  pub seen : S
  pub keeping : Keeping
  pub told : Option LinkTold

-- the bot of the definition that stands so, before such frames and what ends them, and has sent
-- these bytes
abbrev pub bot_at : {S : Type 0} → Standing S → List (List ℕ) → Option FrameFault → Bool →
    List ℕ → Bot S
bot_at now frames fault ended sent = record {
  seen = now.seen;
  ahead = record { frames = frames; fault = fault; ended = ended };
  read = now.keeping.read;
  number = now.keeping.number;
  sent = sent;
}

-- it can go on: the link can be read, and the patience has not run out
pub record CanGoOn (keeping : Keeping) (stage : LinkStage) : Type 0 where
  pub goes : GoesWith keeping.incoming stage
  pub patient : keeping.incoming.quiets < keeping.incoming.patience

-- what a splitter held and what was read behind it are some frames and what is left
pub record Frames (held given : List ℕ) (frames : List (List ℕ)) (left_ : List ℕ) : Type 0 where
  pub front : List ℕ
  pub parts : held ++ given ≡ front ++ left_
  pub framed : SpellsFrames frames front

-- Some frames were read and some bytes sent, and whatever comes behind them, the play goes on as
-- what is left of it.
pub record HasCome {S : Type 0} (play rest : Bot S → Course S) (old new : Standing S) : Type 0 where
  pub given : List ℕ
  pub frames : List (List ℕ)
  pub sent : List ℕ
  pub exchanged : HasPassed old.told new.told [] given sent
  pub cut : Frames old.keeping.incoming.splitting.held given frames
      new.keeping.incoming.splitting.held
  pub before : kept_count new.keeping.incoming.splitting.before ≡
      kept_count (old.keeping.incoming.splitting.before + length cut.front)
  pub patience : new.keeping.incoming.patience ≡ old.keeping.incoming.patience
  pub course : (later : List (List ℕ)) (fault : Option FrameFault) (ended : Bool)
      (first : List ℕ) → play (bot_at old (frames ++ later) fault ended first) ≡
      rest (bot_at new later fault ended (first ++ sent))

-- some frames were read and some bytes sent, and by what is left behind them the play failed so
pub record HasFailed {S : Type 0} (play : Bot S → Course S) (old : Standing S)
    (told : Option LinkTold) (stage : LinkStage) (fault : BotFault) : Type 0 where
  pub given : List ℕ
  pub frames : List (List ℕ)
  pub sent : List ℕ
  pub left_ : List ℕ
  pub exchanged : HasPassed old.told told [] given sent
  pub cut : Frames old.keeping.incoming.splitting.held given frames left_
  pub course : (rest : Cut) (first : List ℕ) →
      IsCutAt (old.keeping.incoming.splitting.before + length cut.front) left_ rest →
      FailsAs (play (bot_at old (frames ++ rest.frames) rest.fault stage.ended first))
      (first ++ sent) old.keeping.incoming.patience stage.quiet_run fault

-- one or the other
abbrev pub IsStep : {S : Type 0} → (Bot S → Course S) → (Bot S → Course S) → Standing S →
    Standing S → LinkStage → Result (Unit {0}) BotFault → Type 0
IsStep play rest old new stage (Ok done) = HasCome play rest old new × CanGoOn new.keeping stage
IsStep play rest old new stage (Err fault) = HasFailed play old new.told stage fault

-- the script ends here
abbrev pub left_off : {S : Type 0} → Bot S → Course S
left_off bot = ends (ended_with bot.seen) bot.sent

-- ---- one frame

-- what the packet of a frame came to, behind so many that were read, with these bytes sent
abbrev pub FrameAs : {S : Type 0} → (Bot S → Course S) → S → S → ℕ → List ℕ →
    Result (Unit {0}) BotFault → Type 0
FrameAs play seen seen' read sent (Ok done) = (ahead : Ahead) (number : ℤ) (first : List ℕ) →
    play (record { seen = seen; ahead = ahead; read = read; number = number; sent = first })
    ≡ goes (record {
      seen = seen';
      ahead = ahead;
      read = raised read;
      number = number;
      sent = first ++ sent;
    })
FrameAs play seen seen' read sent (Err fault) = (patience run : ℕ) → run < patience →
    (ahead : Ahead) (number : ℤ) (first : List ℕ) → FailsAs
    (play (record { seen = seen; ahead = ahead; read = read; number = number; sent = first }))
    (first ++ sent) patience run fault

pub record HasTakenFrame {S : Type 0} (play : Bot S → Course S) (seen seen' : S) (read : ℕ)
    (told told' : Option LinkTold) (result : Result (Unit {0}) BotFault) : Type 0 where
  pub sent : List ℕ
  pub exchanged : HasPassed told told' [] [] sent
  pub came : FrameAs play seen seen' read sent result

-- what the answer to the login came to, behind so many packets
abbrev pub LoginAs : Result LoginDown PacketFault → ℕ → Result (Unit {0}) BotFault → Type 0
LoginAs (Ok (login.Success uuid name)) count (Ok done) = Unit {0}
LoginAs (Ok (login.Disconnect reason)) count (Err (faults.Closed said)) = said ≡ reason
LoginAs (Err fault) count (Err (faults.Packet other n)) = (other ≡ fault) × (n ≡ count)
LoginAs read count (Err faults.NoMemory) = Unit {0}
LoginAs read count result = ⊥

-- what reading the packet of a frame came to, behind so many packets
abbrev pub PacketAs : Result Down PacketFault → ℕ → Result Down BotFault → Type 0
PacketAs read count (Ok packet) = read ≡ Ok packet
PacketAs read count (Err (faults.Packet fault n)) = (read ≡ Err fault) × (n ≡ count)
PacketAs read count (Err faults.NoMemory) = Unit {0}
PacketAs read count (Err other) = ⊥

-- what became of what follows the server by a packet
abbrev pub TookAs : {S : Type 0} → SeerRules S → Down → S → S → Result (Unit {0}) BotFault → Type 0
TookAs rules packet seen seen' (Ok done) =
    (rules.refuses seen packet ≡ None) × (seen' ≡ rules.takes seen packet)
TookAs rules packet seen seen' (Err (faults.Body fault)) = rules.refuses seen packet ≡ Some fault
TookAs rules packet seen seen' (Err faults.NoMemory) = Unit {0}
TookAs rules packet seen seen' (Err other) = ⊥

-- ---- lines

-- what comparing a cell came to, for a line of this number
abbrev pub ComparedAs : ℕ → ℕ → Option ℕ → Result (Unit {0}) BotFault → Type 0
ComparedAs line want have (Ok done) = is_state have want ≡ true
ComparedAs line want have (Err fault) = (is_state have want ≡ false)
    × (fault ≡ faults.Expect line want have)
