-- What was said, as the frames that tell it to a client.
use Rattle.std.specs.Prelude.{◌≡◌, ◌++◌, ◌∷◌, [], ℕ, List, map, refl}
use Rattle.std.specs.Coded.{Coded, code_by, coded×, coded_ℕ, coded_list}
use Rattle.std.specs.List.{AllByRecursion, flat_map}
use Rattle.mc_model.specs.Delta.{chat_packet}
use Rattle.mc_flush.specs.declared.encoded_line.EncodedLine.{EncodedLine}
use Rattle.mc_sending.specs.Sending.{IsClear, play_bytes}

-- a text that a packet of chat can carry
abbrev pub IsLine : List ℕ → Type 0
IsLine text = IsClear (chat_packet text)

-- the frame that tells a text
abbrev pub line_bytes : List ℕ → List ℕ
line_bytes text = play_bytes (chat_packet text ∷ [])

abbrev pub coded_line : Coded EncodedLine
coded_line =
    code_by (List ℕ × List ℕ) (coded× (coded_list coded_ℕ) (coded_list coded_ℕ))
    (λ line. (line.text, line.frame))
    (λ parts. record { text = parts.0; frame = parts.1 })
    (λ line. refl)

abbrev pub coded_lines : Coded (List EncodedLine)
coded_lines = coded_list coded_line

-- what was encoded of lines are their frames
abbrev pub IsLineFrame : EncodedLine → Type 0
IsLineFrame line = line.frame ≡ line_bytes line.text

abbrev pub AreLines : List EncodedLine → Type 0
AreLines lines = AllByRecursion IsLineFrame lines

-- the texts of lines
abbrev pub texts_of : List EncodedLine → List (List ℕ)
texts_of lines = map (λ line. line.text) lines

-- their frames, one behind the other
abbrev pub all_frames : List EncodedLine → List ℕ
all_frames lines = flat_map (λ line. line.frame) lines

-- a text with its frame
abbrev pub framed : List ℕ → EncodedLine
framed text = record { text = text; frame = line_bytes text }

-- texts behind those that are there, in the order in which they were said
abbrev pub with_texts : List EncodedLine → List (List ℕ) → List EncodedLine
with_texts lines texts = lines ++ map framed texts
