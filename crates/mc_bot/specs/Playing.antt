-- What a bot sends over its script, and what its play comes to, of all that the link gave. Rules of
-- this project: a packet is taken exactly where a line still waits for one, every other line is
-- done at once, and what no line comes to refuses nothing.
use Rattle.std.specs.Prelude.{ℕ, ◌==◌, Bool, true, false, List, [], ◌∷◌, ◌++◌, Option, Some, None}
use Rattle.std.specs.Prelude.{zero, suc, Result, Ok, Err, codes, if◌then◌else◌}
use lib.IntN.{ℤ, pos}
use Rattle.mc_bytes.specs.declared.fault.FieldFault.{FieldFault}
use Rattle.mc_fields.specs.declared.packet.PacketFault.{PacketFault}
use Rattle.mc_fields.specs.declared.position.Cell.{Cell}
use Rattle.mc_fields.specs.Row.{packet_read, packet_of}
use Rattle.mc_frame.specs.declared.fault.FrameFault.{FrameFault}
use Rattle.mc_frame.specs.Cut.{Cut}
use Rattle.mc_frame.specs.Frame.{frame_spelling}
use Rattle.mc_hello.specs.declared.handshake.Hand.TheVariants.{Handshake}
use Rattle.mc_hello.specs.declared.login_up.LoginUp.TheVariants.{Start}
use Rattle.mc_hello.specs.declared.login_down.LoginDown.{LoginDown}
use Rattle.mc_hello.specs.declared.login_down.LoginDown.TheVariants as login
use Rattle.mc_hello.specs.Hand as hand
use Rattle.mc_hello.specs.LoginUp as login_up
use Rattle.mc_hello.specs.LoginDown as login_down
use Rattle.mc_packets.specs.declared.down.Down.{Down}
use Rattle.mc_packets.specs.declared.down.Down.TheVariants.{Disconnect}
use Rattle.mc_packets.specs.Down as play
use Rattle.mc_slots.specs.declared.slot.Slot.{Slot}
use Rattle.mc_up.specs.declared.play_up.PlayUp.{PlayUp}
use Rattle.mc_wire.specs.Count.{raised}
use Rattle.mc_bot.specs.declared.act.Act.{Act}
use Rattle.mc_bot.specs.declared.act.Act.TheVariants as acts
use Rattle.mc_bot.specs.declared.act.Line.{Line}
use Rattle.mc_bot.specs.declared.bot_fault.BotFault.{BotFault}
use Rattle.mc_bot.specs.declared.bot_fault.BotFault.TheVariants.{Closed, Frame, Packet, Body}
use Rattle.mc_bot.specs.declared.bot_fault.BotFault.TheVariants.{Expect}
use Rattle.mc_bot.specs.Asked.{Asked, ask_all, bytes_of, click_after, packets_of, reply_to}
use Rattle.mc_bot.specs.Script.{ScriptValue}

-- ---- what follows the server

-- why a state takes a packet not, where it does not, and the state after one that it takes; the
-- state after a packet that is asked for, and the bytes that are sent for it; what a state shows: a
-- block, a slot of the window that is shown, that window's number, and its dump
pub record SeerRules (S : Type 0) : Type 0 where
  pub refuses : S → Down → Option FieldFault
  pub takes : S → Down → S
  pub asks : S → PlayUp → S
  pub sends : S → PlayUp → List ℕ
  pub block_at : S → Cell → Option ℕ
  pub slot_at : S → ℤ → Option Slot
  pub window_at : S → ℕ
  pub dumps : S → List ℕ

abbrev pub rules_of : {S : Type 0} → (S → Down → Option FieldFault) → (S → Down → S) →
    (S → PlayUp → S) → (S → PlayUp → List ℕ) → (S → Cell → Option ℕ) → (S → ℤ → Option Slot) →
    (S → ℕ) → (S → List ℕ) → SeerRules S
rules_of refuses takes asks sends block_at slot_at window_at dumps = record {
  refuses = refuses;
  takes = takes;
  asks = asks;
  sends = sends;
  block_at = block_at;
  slot_at = slot_at;
  window_at = window_at;
  dumps = dumps;
}

-- ---- how a play stands, and how it ends

-- the frames of what the link gave, the fault of its stream, if it has one, and whether it ended
pub record Ahead : Type 0 where
  pub frames : List (List ℕ)
  pub fault : Option FrameFault
  pub ended : Bool

-- what lies ahead in a stream that is cut so
abbrev pub ahead_of : Cut → Bool → Ahead
ahead_of cut ended = record { frames = cut.frames; fault = cut.fault; ended = ended }

-- what follows the server, what lies ahead, how many packets were read, the number of the next
-- click, and all bytes that were sent
pub record Bot (S : Type 0) : Type 0 where
  pub seen : S
  pub ahead : Ahead
  pub read : ℕ
  pub number : ℤ
  pub sent : List ℕ

-- the script came to its end with this, or to something that refuses it, or it waits for a packet
-- that has not come
pub data BotEnd (S : Type 0) : Type 0 where
  ended_with : S → BotEnd S
  refused_for : BotFault → BotEnd S
  waiting : BotEnd S

-- a play goes on, or it ended, with all bytes that were sent
pub data Course (S : Type 0) : Type 0 where
  goes : Bot S → Course S
  ends : BotEnd S → List ℕ → Course S

-- what comes next in a play that goes on
abbrev pub then_play : {S : Type 0} → Course S → (Bot S → Course S) → Course S
then_play (goes bot) next = next bot
then_play (ends end_ sent) next = ends end_ sent

abbrev pub refused : {S : Type 0} → BotFault → Bot S → Course S
refused fault bot = ends (refused_for fault) bot.sent

-- ---- packets

-- a packet is needed and no frame is left: the stream is at fault, or the link has ended, or it has
-- not come
abbrev pub no_packet : {S : Type 0} → Option FrameFault → Bool → BotEnd S
no_packet (Some fault) ended = refused_for (Frame fault)
no_packet None true = refused_for (Closed [])
no_packet None false = waiting

-- the next frame, where a packet is needed
abbrev pub with_frame : {S : Type 0} → List (List ℕ) → Bot S → (List ℕ → Bot S → Course S) →
    Course S
with_frame [] bot next = ends (no_packet bot.ahead.fault bot.ahead.ended) bot.sent
with_frame (frame ∷ frames) bot next =
    next frame (record bot { ahead = record bot.ahead { frames = frames } })

-- one more packet was read; the count stands still at the end of 64 bits
abbrev pub has_read : {S : Type 0} → Bot S → Bot S
has_read bot = record bot { read = raised bot.read }

-- the answer to the login
abbrev pub logged_by : {S : Type 0} → Result LoginDown PacketFault → Bot S → Course S
logged_by (Ok (login.Success uuid name)) bot = goes (has_read bot)
logged_by (Ok (login.Disconnect reason)) bot = refused (Closed reason) bot
logged_by (Err fault) bot = refused (Packet fault bot.read) bot

abbrev pub logged_in : {S : Type 0} → Bot S → Course S
logged_in bot = with_frame bot.ahead.frames bot
    (λ frame. logged_by (packet_of frame (packet_read login_down.rows frame)))

-- why the server closes the link, where a packet says so
abbrev pub farewell : Down → Option (List ℕ)
farewell (Disconnect reason) = Some reason
farewell other = None

-- a packet is taken, and its answer is sent at once
abbrev pub with_taken : {S : Type 0} → SeerRules S → Down → Bot S → Bot S
with_taken rules packet bot = has_read (record bot {
  seen = rules.takes bot.seen packet;
  sent = bot.sent ++ bytes_of (reply_to packet);
})

-- it is taken, where nothing refuses it
abbrev pub taken_if : {S : Type 0} → SeerRules S → Option (List ℕ) → Option FieldFault → Down →
    Bot S → Course S
taken_if rules (Some reason) fault packet bot = refused (Closed reason) bot
taken_if rules None (Some fault) packet bot = refused (Body fault) bot
taken_if rules None None packet bot = goes (with_taken rules packet bot)

abbrev pub taken_by : {S : Type 0} → SeerRules S → Result Down PacketFault → Bot S → Course S
taken_by rules (Ok packet) bot =
    taken_if rules (farewell packet) (rules.refuses bot.seen packet) packet bot
taken_by rules (Err fault) bot = refused (Packet fault bot.read) bot

-- the next packet is taken
abbrev pub packet_taken : {S : Type 0} → SeerRules S → Bot S → Course S
packet_taken rules bot = with_frame bot.ahead.frames bot
    (λ frame. taken_by rules (packet_of frame (packet_read play.rows frame)))

-- so many more are
unfoldable pub packets_taken : {S : Type 0} → SeerRules S → ℕ → Bot S → Course S
packets_taken rules zero bot = goes bot
packets_taken rules (suc n) bot = then_play (packet_taken rules bot) (packets_taken rules n)

-- ---- lines

-- whether a cell has a state
abbrev pub is_state : Option ℕ → ℕ → Bool
is_state (Some state) want = state == want
is_state None want = false

-- packets are taken until a cell has a state; the list is that of the frames that are left
unfoldable pub taken_until : {S : Type 0} → SeerRules S → Cell → ℕ → List (List ℕ) → Bot S →
    Course S
taken_until rules cell state [] bot =
    if is_state (rules.block_at bot.seen cell) state then goes bot else packet_taken rules bot
taken_until rules cell state (frame ∷ frames) bot =
    if is_state (rules.block_at bot.seen cell) state then goes bot
    else then_play (packet_taken rules bot) (taken_until rules cell state frames)

-- the state of a cell is compared at once
abbrev pub compared : {S : Type 0} → ℕ → ℕ → Option ℕ → Bot S → Course S
compared line want have bot =
    if is_state have want then goes bot else refused (Expect line want have) bot

-- the number of the next click after a line
abbrev pub number_past : Act → ℤ → ℤ
number_past (acts.Click slot button mode) number = click_after number
number_past other number = number

-- the packets of a line are asked for, in order, and sent
abbrev pub with_asked : {S : Type 0} → ℤ → Asked S → Bot S → Bot S
with_asked number asked bot = record bot {
  seen = asked.seen;
  number = number;
  sent = bot.sent ++ asked.bytes;
}

abbrev pub acted : {S : Type 0} → SeerRules S → Act → Bot S → Bot S
acted rules act bot = with_asked (number_past act bot.number)
    (ask_all rules.asks rules.sends (record { seen = bot.seen; bytes = [] })
    (packets_of (rules.slot_at bot.seen) (rules.window_at bot.seen) bot.number act)) bot

-- whether a line ends the script
abbrev pub is_leaving : Act → Bool
is_leaving acts.Leave = true
is_leaving other = false

-- a line of this number is done
abbrev pub line_played : {S : Type 0} → SeerRules S → ℕ → Act → Bot S → Course S
line_played rules line (acts.Wait n) bot = packets_taken rules n bot
line_played rules line (acts.Until cell state) bot =
    taken_until rules cell state bot.ahead.frames bot
line_played rules line (acts.Expect cell state) bot =
    compared line state (rules.block_at bot.seen cell) bot
line_played rules line acts.Leave bot = ends (ended_with bot.seen) bot.sent
line_played rules line act bot = goes (acted rules act bot)

-- all lines are, in order, and behind the last the script ends
unfoldable pub lines_played : {S : Type 0} → SeerRules S → List Line → Bot S → Course S
lines_played rules [] bot = ends (ended_with bot.seen) bot.sent
lines_played rules (line ∷ lines) bot =
    then_play (line_played rules line.number line.act bot) (lines_played rules lines)

-- ---- the whole script

-- the handshake, which wants a login, and Login Start
unfoldable pub handshake_frame : ℕ → List ℕ
handshake_frame port =
    frame_spelling (hand.spelling_of (Handshake (pos 47) (codes "localhost") port (pos 2)))

unfoldable pub start_frame : List ℕ → List ℕ
start_frame name = frame_spelling (login_up.spelling_of (Start name))

-- what is sent first
abbrev pub hello : List ℕ → ℕ → List ℕ
hello name port = handshake_frame port ++ start_frame name

-- where a bot begins that sent these
abbrev pub bot_begun : {S : Type 0} → S → List ℕ → Ahead → Bot S
bot_begun seen sent ahead = record {
  seen = seen;
  ahead = ahead;
  read = 0;
  number = pos 1;
  sent = sent;
}

-- the play of a script on a port, begun with what follows the server, over what the link gave
unfoldable pub played_out : {S : Type 0} → SeerRules S → S → ScriptValue → ℕ → Ahead → Course S
played_out rules seen script port ahead =
    then_play (logged_in (bot_begun seen (hello script.name port) ahead))
    (lines_played rules script.lines)

-- all bytes that were sent in a play
abbrev pub all_sent : {S : Type 0} → Course S → List ℕ
all_sent (goes bot) = bot.sent
all_sent (ends end_ sent) = sent
