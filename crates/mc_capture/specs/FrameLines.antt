-- The lines of a view (rules of this project): what happened to a connection, and the frames of its
-- two ways with the names of their packets.
use Rattle.std.specs.Prelude.{ℕ, ◌==◌, ◌%◌, List, [], ◌∷◌, ◌++◌, codes, decimal, Ok, Err}
use Rattle.std.specs.Prelude.{if◌then◌else◌}
use Rattle.std.specs.Int.{cast_unsigned, w32}
use lib.IntN.{ℤ}
use Rattle.hex.specs.Hex.{encode_lower}
use Rattle.mc_bytes.specs.Reading.{Field}
use Rattle.mc_fields.specs.Varint.{varint_read}
use Rattle.mc_capture.specs.declared.states.Way.{Way}
use Rattle.mc_capture.specs.declared.states.Way.TheVariants.{Up, Down}
use Rattle.mc_capture.specs.declared.states.State.{State}
use Rattle.mc_capture.specs.declared.states.State.TheVariants as states
use Rattle.mc_capture.specs.Names.{name_of}

abbrev pub line_end : List ℕ
line_end = 10 ∷ []

-- ---- what happened, by the kind of its record

abbrev pub happening_word : ℕ → List ℕ
happening_word kind =
    if kind == 0 then codes "join "
    else if kind == 2 then codes "gone "
    else if kind == 5 then codes "broke "
    else codes "closed "

abbrev pub happening_line : ℕ → ℕ → List ℕ
happening_line kind k =
    if kind == 3 then codes "tick" ++ line_end else happening_word kind ++ decimal k ++ line_end

-- ---- frames

abbrev pub way_words : Way → List ℕ
way_words Up = codes "up "
way_words Down = codes "down "

abbrev pub state_words : State → List ℕ
state_words states.Hand = codes " hand "
state_words states.Status = codes " status "
state_words states.Login = codes " login "
state_words states.Play = codes " play "

-- the value of an id: those of packets are below 256
abbrev pub id_byte : ℤ → ℕ
id_byte id = cast_unsigned w32 id % 256

-- the way, the connection, the state, the id as two digits and the name of its packet
abbrev pub frame_head : ℕ → Way → State → ℕ → List ℕ
frame_head k way state id =
    way_words way ++ decimal k ++ state_words state ++ encode_lower (id ∷ []) ++ codes " "
    ++ name_of way state id ++ codes " "

-- the bytes behind the id, as they stood
abbrev pub fields_words : List ℕ → List ℕ
fields_words [] = codes "-"
fields_words (b ∷ bytes) = encode_lower (b ∷ bytes)

abbrev pub line_of : ℕ → Way → State → Field ℤ → List ℕ
line_of k way state (Ok (id, fields)) =
    frame_head k way state (id_byte id) ++ (fields_words fields ++ line_end)
line_of k way state (Err stop) = []

-- a frame that begins with an id
unfoldable pub frame_line : ℕ → Way → State → List ℕ → List ℕ
frame_line k way state frame = line_of k way state (varint_read 5 frame)

-- the first fault of a way
abbrev pub fault_line : ℕ → Way → List ℕ
fault_line k way = way_words way ++ decimal k ++ codes " fault" ++ line_end
