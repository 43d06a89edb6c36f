-- The line of a frame, by what reading its id gives.
use Rattle.std.proofs.Common.{◌≡◌, ℕ, List, ◌++◌, Ok, sym, ap, ◌∙◌}
use lib.IntN.{ℤ}
use Rattle.mc_fields.specs.Varint.{varint_read}
use Rattle.mc_capture.specs.declared.states.Way.{Way}
use Rattle.mc_capture.specs.declared.states.State.{State}
use Rattle.mc_capture.specs.FrameLines.{fields_words, frame_head, frame_line, id_byte, line_end}
use Rattle.mc_capture.specs.FrameLines.{line_of}

pub line_is : (k : ℕ) (way : Way) (state : State) (frame start left fields : List ℕ) (id : ℤ)
    (byte : ℕ)
    → start ≡ frame
    → varint_read 5 start ≡ Ok (id, left)
    → fields ≡ left
    → byte ≡ id_byte id
    → frame_line k way state frame
    ≡ frame_head k way state byte ++ (fields_words fields ++ line_end)
unfolding frame_line
line_is k way state frame start left fields id byte starts reads is_left is_byte =
    ap (λ (t : List ℕ). line_of k way state (varint_read 5 t)) (sym starts)
    ∙ ap (line_of k way state) reads
    ∙ ap (λ (t : List ℕ). frame_head k way state (id_byte id) ++ (fields_words t ++ line_end))
    (sym is_left)
    ∙ ap (λ (b : ℕ). frame_head k way state b ++ (fields_words fields ++ line_end)) (sym is_byte)
