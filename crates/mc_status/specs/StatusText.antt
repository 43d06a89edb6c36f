-- What `status` writes for an input, whole: what the world answers to one connection whose bytes
-- come one by one, as lines of hex, and the first fault. Rules of this project. No buffer, no piece
-- and no order of work is in it. Since it is a function, an input has one text for each number of
-- players, and one first fault or none.
use Rattle.std.specs.Prelude.{ℕ, ◌+◌, ◌-◌, ◌&&◌, nat_lt, not, Bool, false, List, [], ◌∷◌, ◌++◌}
use Rattle.std.specs.Prelude.{length, take, fold, Option, Some, None, is_some, if◌then◌else◌}
use Rattle.std.specs.List.{flat_map}
use Rattle.std.specs.FinMap.{get}
use Rattle.hex.specs.Hex.{encode_lower}
use Rattle.mc_land.specs.declared.terrain.Terrain.TheVariants.{Flat}
use Rattle.mc_model.specs.declared.cause.Cause.{Cause}
use Rattle.mc_model.specs.declared.cause.Cause.TheVariants as causes
use Rattle.mc_model.specs.declared.settings.Settings.{Settings}
use Rattle.mc_model.specs.declared.stage.Stage.{Stage}
use Rattle.mc_model.specs.declared.stage.Stage.TheVariants as stages
use Rattle.mc_model.specs.Minds.{without_mobs}
use Rattle.mc_model.specs.Stages.{is_closed}
use Rattle.mc_model.specs.Packets.{Sent, frame_of}
use Rattle.mc_model.specs.Step.{joined, came, took, step}
use Rattle.mc_model.specs.Run.{to, owed_in}
use Rattle.mc_model.specs.Link.{Link}
use Rattle.mc_model.specs.World.{World, Outcome, new_world, unread_of}
use Rattle.mc_words.specs.declared.bad_input.InputFault.{InputFault}
use Rattle.mc_words.specs.declared.bad_input.InputFault.TheVariants.{Hex, Frame, Packet, Login, Cut}
use Rattle.mc_words.specs.declared.bad_input.InputFault.TheVariants.{Long}
use Rattle.mc_text.specs.Lines.{lines_of, line_bytes, goes_past}
use Rattle.mc_words.specs.Told.{Told}

-- ---- one connection

-- the exchange with connection 0 so far: the world, the lines that were written, and what is wrong
-- with the connection
pub record Exchange : Type 0 where
  pub world : World
  pub text : List ℕ
  pub fault : Option InputFault

-- so many players may be in play
abbrev pub lone_settings : ℕ → Settings
lone_settings most = record { players = most; cap = 2; terrain = Flat }

-- it has joined a new world of that, which has no mobs
abbrev pub first_exchange : ℕ → Exchange
first_exchange most = record {
  world = (step (new_world (without_mobs (lone_settings most))) (joined 0)).world;
  text = [];
  fault = None;
}

-- packets, each as a line of lower-case hex
abbrev pub hex_line : List ℕ → List ℕ
hex_line bytes = encode_lower bytes ++ 10 ∷ []

abbrev pub sent_lines : List Sent → List ℕ
sent_lines packets = flat_map (λ (p : Sent). hex_line (frame_of p)) packets

-- it wants to log in, or was closed for a frame
abbrev pub session_fault : Stage → Option Cause → Option InputFault
session_fault stages.Login cause = Some Login
session_fault stage (Some (causes.Frame fault)) = Some Frame
session_fault stage (Some (causes.Packet fault)) = Some Packet
session_fault stage other = None

abbrev pub shown_fault : Option Link → Option InputFault
shown_fault None = None
shown_fault (Some l) = session_fault l.stage l.cause

-- it takes all that it is owed
abbrev pub emptied : World → World
emptied w = (step w (took 0 (length (owed_in 0 w)))).world

-- the exchange after a step
abbrev pub goes_on : Exchange → Outcome → Exchange
goes_on x o = record {
  world = emptied o.world;
  text = x.text ++ sent_lines (to 0 o.out);
  fault =
      shown_fault (get o.world.links 0);
}

-- a byte comes; after a fault it is ignored
abbrev pub receives : Exchange → ℕ → Exchange
receives x b = if is_some x.fault then x else goes_on x (step x.world (came 0 (b ∷ [])))

-- ---- lines

-- the bytes of a line come one by one, where it is hex
abbrev pub receives_line : Exchange → Option (List ℕ) → Exchange
receives_line x None = record x { fault = Some Hex }
receives_line x (Some bytes) = fold receives x bytes

-- the next line, up to whose end a text of `len` bytes has `size`
abbrev pub receives_next : ℕ → ℕ → Exchange → List ℕ → Exchange
receives_next len size x line = if goes_past len size then record x { fault = Some Long } else
    receives_line x (line_bytes line)

abbrev pub is_open_in : Option Link → Bool
is_open_in None = false
is_open_in (Some l) = not (is_closed l.stage)

-- the connection is open, and its bytes end inside a frame
abbrev pub ends_inside : World → Bool
ends_inside w = is_open_in (get w.links 0) && nat_lt 0 (length (unread_of 0 w).rest)

-- the number of the line that holds the last byte of a text: as many lines as the text has without
-- that byte
abbrev pub last_byte_line : List ℕ → ℕ
last_byte_line text = length (lines_of (take (length text - 1) text))

-- behind all lines
abbrev pub told_at_end : List ℕ → Exchange → Told
told_at_end input x = record {
  text = x.text;
  fault = if ends_inside x.world then
      Some (record { at = last_byte_line input; kind = Cut }) else None;
}

-- after line n, whose fault ends it
abbrev pub told_after : ℕ → Exchange → Option InputFault → (Exchange → Told) → Told
told_after n x (Some kind) later = record {
  text = x.text;
  fault =
      Some (record { at = n; kind = kind });
}
told_after n x None later = later x

-- the lines behind the first `count`, which have `size` bytes with their ends
unfoldable pub lines_told : List ℕ → ℕ → ℕ → Exchange → List (List ℕ) → Told
lines_told input count size x [] = told_at_end input x
lines_told input count size x (line ∷ lines) =
    let next = receives_next (length input) (size + (length line + 1)) x line in
    told_after (count + 1) next next.fault
    (λ y. lines_told input (count + 1) (size + (length line + 1)) y lines)

-- what is told of an input, with so many players at most
unfoldable pub status_told : ℕ → List ℕ → Told
status_told most input = lines_told input 0 0 (first_exchange most) (lines_of input)
