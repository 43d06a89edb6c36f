-- The format of frames, of the page 'Protocol' of wiki.vg for protocol 47.
use Rattle.std.specs.Prelude.{ℕ, ◌+◌, List, ◌++◌, length, refl}
use Rattle.mc_bytes.specs.Format.{Format}
use Rattle.mc_frame.specs.Frame.{IsPayload, SpellsFrame, frame_read, frame_spelling}
use Rattle.mc_frame.specs.FrameLaws.{frame_found, frame_only, frame_fit, frame_spelled}
use Rattle.mc_frame.specs.FrameLaws.{frame_bounded}

-- a frame, seen as its payload
abbrev pub frame : {Rest : List ℕ → Type 0} → Format Rest (List ℕ)
frame {Rest} = record {
  spells = SpellsFrame;
  read = frame_read;
  fits = IsPayload;
  spelling = frame_spelling;
  append = λ payload out. out ++ frame_spelling payload;
  most = λ payload. 3 + length payload;
  found = frame_found;
  only = frame_only Rest;
  fit = frame_fit;
  spelled = frame_spelled;
  appended = λ payload out. refl;
  bounded = frame_bounded;
}
