-- A client is sent one frame, and the words that it is told are short.
use Rattle.std.proofs.Common.{◌≡◌, ℕ, List, [], ◌∷◌, ap, sym, subst, ◌∙◌}
use Rattle.std.specs.Prelude.{Result, IfOk, Some}
use Rattle.std.proofs.lemmas.List.{append-nil}
use Rattle.std.proofs.lemmas.Result.{IfOk-weaker}
use Rattle.mc_bytes.specs.declared.memory.NoMemory.{NoMemory}
use Rattle.mc_model.specs.declared.cause.Cause.{Cause}
use Rattle.mc_model.specs.Texts.{chat_json, farewell_text}
use Rattle.mc_model.specs.Packets.{Sent, frame_of, bytes_of}
use Rattle.mc_model.proofs.FitsText.{IsShort, AreShortWords, farewell_short}

-- the frame of a packet is the bytes of it alone
pub one_sent : (packet other : Sent) (r : Result (List ℕ) NoMemory) → packet ≡ other →
    IfOk r (λ frame. frame ≡ frame_of packet) → IfOk r (λ bytes. bytes ≡ bytes_of (other ∷ []))
one_sent packet other r same h = IfOk-weaker r _ _ (λ frame is. is
    ∙ (ap frame_of same ∙ sym (append-nil (frame_of other)))) h

-- the words of a farewell are short
pub words_short : (cause : Cause) (words json : List ℕ) → Some words ≡ farewell_text cause →
    json ≡ chat_json words → IsShort 200 json
words_short cause words json some is =
    let short : IsShort 200 (chat_json words) =
    subst AreShortWords (sym some) (farewell_short cause) in
    subst (IsShort 200) (sym is) short
