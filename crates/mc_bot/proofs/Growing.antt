-- What a bot has sent stays sent, whatever comes behind.
use Rattle.std.proofs.Common.{ℕ, zero, suc, Bool, true, false, List, [], ◌∷◌, ◌++◌, Option}
use Rattle.std.proofs.Common.{Some, None, Result, Ok, Err, refl, sym, ap, ◌∙◌, append_assoc}
use Rattle.std.specs.Prelude.{if◌then◌else◌}
use Rattle.std.proofs.lemmas.List.{append-nil}
use Rattle.mc_bytes.specs.declared.fault.FieldFault.{FieldFault}
use Rattle.mc_fields.specs.declared.packet.PacketFault.{PacketFault}
use Rattle.mc_fields.specs.declared.position.Cell.{Cell}
use Rattle.mc_fields.specs.Row.{packet_read, packet_of}
use Rattle.mc_hello.specs.declared.login_down.LoginDown.{LoginDown}
use Rattle.mc_hello.specs.declared.login_down.LoginDown.TheVariants as login
use Rattle.mc_packets.specs.declared.down.Down.{Down}
use Rattle.mc_packets.specs.Down as play
use Rattle.mc_bot.specs.declared.act.Act.{Act}
use Rattle.mc_bot.specs.declared.act.Act.TheVariants as acts
use Rattle.mc_bot.specs.declared.act.Line.{Line}
use Rattle.mc_bot.specs.Played.{IsBegun}
use Rattle.mc_bot.specs.Playing.{SeerRules, Bot, Course, goes, ends, then_play, with_frame}
use Rattle.mc_bot.specs.Playing.{logged_by, farewell, taken_if, taken_by, packet_taken}
use Rattle.mc_bot.specs.Playing.{packets_taken, is_state, taken_until, compared, line_played}
use Rattle.mc_bot.specs.Playing.{lines_played, all_sent}

pub begun_all : (a : List ℕ) → IsBegun a a
begun_all a = ([], sym (append-nil a))

pub begun_more : (a more : List ℕ) → IsBegun a (a ++ more)
begun_more a more = (more, refl)

pub begun_trans : (a b c : List ℕ) → IsBegun a b → IsBegun b c → IsBegun a c
begun_trans a b c first second = (
  first.0 ++ second.0,
  second.1 ∙ ap (λ (l : List ℕ). l ++ second.0) first.1 ∙ append_assoc a first.0 second.0,
)

-- a play keeps what was sent before it
abbrev pub Keeps : {S : Type 0} → (Bot S → Course S) → Type 0
Keeps {S} play = (bot : Bot S) → IsBegun bot.sent (all_sent (play bot))

pub then_keeps : {S : Type 0} (sent : List ℕ) (course : Course S) (next : Bot S → Course S) →
    IsBegun sent (all_sent course) → Keeps next → IsBegun sent (all_sent (then_play course next))
then_keeps sent (goes bot) next begun keeps =
    begun_trans sent bot.sent (all_sent (next bot)) begun (keeps bot)
then_keeps sent (ends end_ all) next begun keeps = begun

pub frame_keeps : {S : Type 0} (frames : List (List ℕ)) (bot : Bot S)
    (next : List ℕ → Bot S → Course S) → ((frame : List ℕ) → Keeps (next frame)) →
    IsBegun bot.sent (all_sent (with_frame frames bot next))
frame_keeps [] bot next keeps = begun_all bot.sent
frame_keeps (frame ∷ frames) bot next keeps =
    keeps frame (record bot { ahead = record bot.ahead { frames = frames } })

pub logged_keeps : {S : Type 0} (read : Result LoginDown PacketFault) →
    Keeps {S = S} (logged_by read)
logged_keeps (Ok (login.Success uuid name)) bot = begun_all bot.sent
logged_keeps (Ok (login.Disconnect reason)) bot = begun_all bot.sent
logged_keeps (Err fault) bot = begun_all bot.sent

if_taken_keeps : {S : Type 0} (rules : SeerRules S) (reason : Option (List ℕ))
    (fault : Option FieldFault) (packet : Down) → Keeps (taken_if rules reason fault packet)
if_taken_keeps rules (Some reason) fault packet bot = begun_all bot.sent
if_taken_keeps rules None (Some fault) packet bot = begun_all bot.sent
if_taken_keeps rules None None packet bot = begun_more bot.sent _

pub taken_keeps : {S : Type 0} (rules : SeerRules S) (read : Result Down PacketFault) →
    Keeps (taken_by rules read)
taken_keeps rules (Ok packet) bot =
    if_taken_keeps rules (farewell packet) (rules.refuses bot.seen packet) packet bot
taken_keeps rules (Err fault) bot = begun_all bot.sent

pub packet_keeps : {S : Type 0} (rules : SeerRules S) → Keeps (packet_taken rules)
packet_keeps rules bot = frame_keeps bot.ahead.frames bot
    (λ frame. taken_by rules (packet_of frame (packet_read play.rows frame)))
    (λ frame. taken_keeps rules (packet_of frame (packet_read play.rows frame)))

pub packets_keep : {S : Type 0} (rules : SeerRules S) (n : ℕ) → Keeps (packets_taken rules n)
unfolding packets_taken
packets_keep rules zero bot = begun_all bot.sent
packets_keep rules (suc n) bot = then_keeps bot.sent (packet_taken rules bot)
    (packets_taken rules n) (packet_keeps rules bot) (packets_keep rules n)

if_keeps : {S : Type 0} (test : Bool) (bot : Bot S) (course : Course S) →
    IsBegun bot.sent (all_sent course) →
    IsBegun bot.sent (all_sent (if test then goes bot else course))
if_keeps true bot course begun = begun_all bot.sent
if_keeps false bot course begun = begun

pub until_keeps : {S : Type 0} (rules : SeerRules S) (cell : Cell) (state : ℕ)
    (frames : List (List ℕ)) → Keeps (taken_until rules cell state frames)
unfolding taken_until
until_keeps rules cell state [] bot = if_keeps (is_state (rules.block_at bot.seen cell) state) bot
    (packet_taken rules bot) (packet_keeps rules bot)
until_keeps rules cell state (frame ∷ frames) bot =
    if_keeps (is_state (rules.block_at bot.seen cell) state) bot
    (then_play (packet_taken rules bot) (taken_until rules cell state frames))
    (then_keeps bot.sent (packet_taken rules bot) (taken_until rules cell state frames)
    (packet_keeps rules bot) (until_keeps rules cell state frames))

compared_keeps : {S : Type 0} (line want : ℕ) (have : Option ℕ) →
    Keeps {S = S} (compared line want have)
compared_keeps line want have bot = if_keeps (is_state have want) bot _ (begun_all bot.sent)

pub line_keeps : {S : Type 0} (rules : SeerRules S) (line : ℕ) (act : Act) →
    Keeps (line_played rules line act)
line_keeps rules line (acts.Wait n) bot = packets_keep rules n bot
line_keeps rules line (acts.Until cell state) bot =
    until_keeps rules cell state bot.ahead.frames bot
line_keeps rules line (acts.Expect cell state) bot =
    compared_keeps line state (rules.block_at bot.seen cell) bot
line_keeps rules line acts.Leave bot = begun_all bot.sent
line_keeps rules line act bot = begun_more bot.sent _

pub lines_keep : {S : Type 0} (rules : SeerRules S) (lines : List Line) →
    Keeps (lines_played rules lines)
unfolding lines_played
lines_keep rules [] bot = begun_all bot.sent
lines_keep rules (line ∷ lines) bot =
    then_keeps bot.sent (line_played rules line.number line.act bot) (lines_played rules lines)
    (line_keeps rules line.number line.act bot) (lines_keep rules lines)
