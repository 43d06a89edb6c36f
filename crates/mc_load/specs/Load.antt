-- A generated load: clients that come one after another, and then move at each tick, dig now and
-- then, and answer each beat. Rules of this project.
use Rattle.std.specs.Prelude.{ℕ, ◌+◌, ◌*◌, ◌/◌, ◌%◌, ◌==◌, List, [], ◌∷◌, ◌++◌, map, true, codes}
use Rattle.std.specs.Prelude.{decimal, if◌then◌else◌}
use Rattle.std.specs.List.{flat_map, range_with_len}
use lib.IntN.{pos}
use Rattle.mc_fields.specs.declared.position.Cell.{Cell}
use Rattle.mc_frame.specs.Frame.{frame_spelling}
use Rattle.mc_hello.specs.declared.handshake.Hand.{Hand}
use Rattle.mc_hello.specs.declared.handshake.Hand.TheVariants.{Handshake}
use Rattle.mc_hello.specs.declared.login_up.LoginUp.TheVariants.{Start}
use Rattle.mc_hello.specs.Hand as hand
use Rattle.mc_hello.specs.LoginUp as login
use Rattle.mc_up.specs.declared.play_up.PlayUp.{PlayUp}
use Rattle.mc_up.specs.declared.play_up.PlayUp.TheVariants as ups
use Rattle.mc_model.specs.Numbers.{pattern_of}
use Rattle.mc_model.specs.Step.{Event, came, joined, ticked}
use Rattle.mc_load.specs.Framed.{packet_frame}

-- ---- what one client sends

-- it comes to play, under a name of its own, and asks for two columns on each side
abbrev pub name_of : ℕ → List ℕ
name_of i = codes "L" ++ decimal i

abbrev pub hello : Hand
hello = Handshake (pos 47) (codes "localhost") 25565 (pos 2)

abbrev pub hello_bytes : List ℕ
hello_bytes = frame_spelling (hand.spelling_of hello)

abbrev pub start_bytes : ℕ → List ℕ
start_bytes i = frame_spelling (login.spelling_of (Start (name_of i)))

abbrev pub two_columns : PlayUp
two_columns = ups.Settings (codes "en_US") (pos 2) (pos 0) true 127

abbrev pub arrival_bytes : ℕ → List ℕ
arrival_bytes i = hello_bytes ++ start_bytes i ++ packet_frame two_columns

-- where it stands at a tick, in 1/32 blocks: it goes to the east, and begins again each 64 ticks
abbrev pub east : ℕ → ℕ → ℕ
east i t = 272 + 8 * ((t + 7 * i) % 64)

abbrev pub south : ℕ → ℕ
south i = 272 + 16 * (i % 8)

abbrev pub turn_move : ℕ → ℕ → PlayUp
turn_move i t = ups.Position (pattern_of (pos (east i t))) (pattern_of (pos 128))
    (pattern_of (pos (south i))) true

-- every tenth tick it digs a cell of the ground
abbrev pub ground_cell : ℕ → ℕ → Cell
ground_cell i t = record { x = pos (8 + i % 4); y = pos 3; z = pos (8 + t % 4) }

abbrev pub turn_dig : ℕ → ℕ → List PlayUp
turn_dig i t = if t % 10 == i % 10 then ups.Digging (pos 2) (ground_cell i t) (pos 1) ∷ [] else []

-- every hundredth it answers the beat
abbrev pub turn_answer : ℕ → List PlayUp
turn_answer t = if t % 100 == 0 then ups.KeepAlive (pos (t / 100)) ∷ [] else []

abbrev pub turn_bytes : ℕ → ℕ → List ℕ
turn_bytes i t =
    packet_frame (turn_move i t) ++ flat_map packet_frame (turn_dig i t)
    ++ flat_map packet_frame (turn_answer t)

-- ---- all that happens

-- a client joins and comes
abbrev pub arrival : ℕ → List Event
arrival i = joined i ∷ came i (arrival_bytes i) ∷ []

-- each client has its turn, and then a tick comes
abbrev pub client_turn : ℕ → ℕ → Event
client_turn t i = came i (turn_bytes i t)

abbrev pub load_round : ℕ → ℕ → List Event
load_round n t = map (client_turn t) (range_with_len 0 n) ++ ticked ∷ []

-- so many clients come, and so many ticks
abbrev pub load_events : ℕ → ℕ → List Event
load_events n ticks =
    flat_map arrival (range_with_len 0 n) ++ flat_map (load_round n) (range_with_len 1 ticks)
