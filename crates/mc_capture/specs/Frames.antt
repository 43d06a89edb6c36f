-- Which packet a frame of a connection is, by the state that its way has come to, and what it
-- changes of the states; of the page 'Protocol' of wiki.vg for protocol 47, without encryption and
-- compression. That no frame to a client fits before a handshake is a rule of this project.
use Rattle.std.specs.Prelude.{List, ℕ, Option, Some, None, Result, Ok, Err, if◌then◌else◌}
use Rattle.std.specs.Ordering.{int_eq}
use lib.IntN.{ℤ, pos}
use Rattle.mc_fields.specs.declared.packet.PacketFault.{PacketFault}
use Rattle.mc_fields.specs.Row.{packet_of, packet_read}
use Rattle.mc_hello.specs.Hand.{rows as hand_rows}
use Rattle.mc_hello.specs.StatusUp.{rows as status_up_rows}
use Rattle.mc_hello.specs.StatusDown.{rows as status_down_rows}
use Rattle.mc_hello.specs.LoginUp.{rows as login_up_rows}
use Rattle.mc_hello.specs.LoginDown.{rows as login_down_rows}
use Rattle.mc_hello.specs.declared.handshake.Hand.{Hand}
use Rattle.mc_hello.specs.declared.handshake.Hand.TheVariants.{Handshake}
use Rattle.mc_hello.specs.declared.login_down.LoginDown.{LoginDown}
use Rattle.mc_hello.specs.declared.login_down.LoginDown.TheVariants.{Disconnect, Success}
use Rattle.mc_up.specs.PlayUp.{rows as play_up_rows}
use Rattle.mc_packets.specs.Down.{rows as play_down_rows}
use Rattle.mc_capture.specs.declared.states.Way.{Way}
use Rattle.mc_capture.specs.declared.states.Way.TheVariants.{Up, Down}
use Rattle.mc_capture.specs.declared.states.State.{State}
use Rattle.mc_capture.specs.declared.states.State.TheVariants as states
use Rattle.mc_capture.specs.declared.states.States.{States}
use Rattle.mc_capture.specs.declared.states.Turn.{Turn}
use Rattle.mc_capture.specs.declared.states.Turn.TheVariants.{Stays, Greets, Plays}

-- ---- states

abbrev pub state_of : Way → States → State
state_of Up s = s.up
state_of Down s = s.down

-- before anything was said
abbrev pub first_states : States
first_states = record { up = states.Hand; down = states.Hand }

-- what a handshake wants: 1 the status, 2 to log in
abbrev pub wanted_state : ℤ → State
wanted_state next = if int_eq next (pos 1) then states.Status else states.Login

-- the states after a packet of one way
abbrev pub turned : Turn → Way → States → States
turned Stays way s = s
turned (Greets next) way s = record { up = next; down = next }
turned Plays Up s = record s { up = states.Play }
turned Plays Down s = record s { down = states.Play }

-- ---- frames

-- a packet that always changes the same, where it is one
abbrev pub turn_if : {P : Type 0} → Turn → Result P PacketFault → Option Turn
turn_if turn (Ok packet) = Some turn
turn_if turn (Err fault) = None

abbrev pub greeting_of : Result Hand PacketFault → Option Turn
greeting_of (Ok (Handshake protocol address port next)) = Some (Greets (wanted_state next))
greeting_of (Err fault) = None

-- who may play does from then on
abbrev pub admission_of : Result LoginDown PacketFault → Option Turn
admission_of (Ok (Disconnect reason)) = Some Stays
admission_of (Ok (Success uuid name)) = Some Plays
admission_of (Err fault) = None

-- what a frame changes, by its way and the state that this has come to; None where it is no packet
-- of that state
unfoldable pub turn_of : Way → State → List ℕ → Option Turn
turn_of Up states.Hand frame = greeting_of (packet_of frame (packet_read hand_rows frame))
turn_of Up states.Status frame = turn_if Stays (packet_of frame (packet_read status_up_rows frame))
turn_of Up states.Login frame = turn_if Plays (packet_of frame (packet_read login_up_rows frame))
turn_of Up states.Play frame = turn_if Stays (packet_of frame (packet_read play_up_rows frame))
turn_of Down states.Hand frame = None
turn_of Down states.Status frame =
    turn_if Stays (packet_of frame (packet_read status_down_rows frame))
turn_of Down states.Login frame =
    admission_of (packet_of frame (packet_read login_down_rows frame))
turn_of Down states.Play frame = turn_if Stays (packet_of frame (packet_read play_down_rows frame))
