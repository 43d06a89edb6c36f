-- What a client decodes by the stage of its connection, and what can be handed to it there; o is
-- the decoder that its handshake asked for.
use Rattle.std.proofs.Common.{◌≡◌, ℕ, List, [], ◌∷◌, ◌++◌, refl, sym, subst, append_assoc, arith}
use Rattle.std.proofs.lemmas.Bool.Decides.{nat_tests}
use Rattle.std.specs.Prelude.{true, Option, Some, None}
use Rattle.std.proofs.lemmas.List.{append-nil}
use Rattle.mc_bytes.specs.Reading.{IsBytes}
use Rattle.mc_hello.specs.declared.status_down.StatusDown.{StatusDown}
use Rattle.mc_hello.specs.declared.login_down.LoginDown.TheVariants as login_down
use Rattle.mc_packets.specs.declared.down.Down.TheVariants as down
use Rattle.mc_model.specs.declared.cause.Cause.{Cause}
use Rattle.mc_model.specs.declared.cause.Refusal.{Refusal}
use Rattle.mc_model.specs.declared.stage.Stage.{Stage}
use Rattle.mc_model.specs.declared.stage.Stage.TheVariants as stages
use Rattle.mc_model.specs.Names.{is_name, uuid_text}
use Rattle.mc_model.specs.Texts.{chat_json, refusal_text, farewell_text}
use Rattle.mc_model.specs.Packets.{Sent, of_status, of_login, of_play, Decoder, for_status}
use Rattle.mc_model.specs.Packets.{for_login, for_play}
use Rattle.mc_model.specs.Talk.{as_chat, farewell, refused, accepted}
use Rattle.mc_model.specs.Decoding.{decoder_for, decoder_of}
use Rattle.mc_model.proofs.Decodes.{IsClear, Decodes, decodes_more}
use Rattle.mc_model.proofs.FitsText.{AreShortWords, farewell_short, refusal_short, uuid_short}
use Rattle.mc_model.proofs.FitsText.{name_short}
use Rattle.mc_model.proofs.FitsTalk.{refusal_clear, success_clear}
use Rattle.mc_model.proofs.FitsPlay.{leave_clear}
use Rattle.mc_laws.proofs.FirstFrame.{IsFirst, decoder_more}

-- its client decodes these; without a handshake there are none
abbrev pub AreDecoded : Option Decoder → List Sent → Type 0
AreDecoded None packets = packets ≡ []
AreDecoded (Some decoder) packets = (end : Decoder) × Decodes decoder packets end

-- what was handed to a connection of this stage so far
abbrev pub DecodesAt : Option Decoder → Stage → List Sent → Type 0
DecodesAt o stages.Hand packets = packets ≡ []
DecodesAt o stages.Status packets = (o ≡ Some for_status) × Decodes for_status packets for_status
DecodesAt o stages.Login packets = (o ≡ Some for_login) × (packets ≡ [])
DecodesAt o stages.Asked packets = (o ≡ Some for_login) × (packets ≡ [])
DecodesAt o stages.Play packets = (o ≡ Some for_login) × Decodes for_login packets for_play
DecodesAt o stages.Closed packets = AreDecoded o packets

-- from one stage to another these can be handed out
abbrev pub Hands : Option Decoder → Stage → Stage → List Sent → Type 0
Hands o before after packets = (earlier : List Sent) → DecodesAt o before earlier →
    DecodesAt o after (earlier ++ packets)

-- nothing is decoded by any
pub none_decoded : (o : Option Decoder) (packets : List Sent) → packets ≡ [] → AreDecoded o packets
none_decoded None packets e = e
none_decoded (Some decoder) packets e =
    (decoder, subst (λ (ps : List Sent). Decodes decoder ps decoder) (sym e) refl)

-- what one decodes is decoded by it
decoded_by : (o : Option Decoder) (decoder end : Decoder) (packets : List Sent) → o ≡ Some decoder →
    Decodes decoder packets end → AreDecoded o packets
decoded_by o decoder end packets is h = let P : Option Decoder → Type 0 =
    λ o. AreDecoded o packets in subst P (sym is) (end, h)

-- at each stage all is decoded
pub at_decoded : (o : Option Decoder) (stage : Stage) (packets : List Sent) →
    DecodesAt o stage packets → AreDecoded o packets
at_decoded o stage packets l = grind (arith, nat_tests, none_decoded, decoded_by)

-- more bytes of its client change nothing of what it decodes
pub decodes_at_more : (bytes more : List ℕ) (stage : Stage) (packets : List Sent) → IsBytes bytes
    → DecodesAt (decoder_of bytes) stage packets →
    DecodesAt (decoder_of (bytes ++ more)) stage packets
decodes_at_more bytes more stage packets fits l =
    grind (arith, nat_tests, decoder_more, none_decoded, decoded_by)

-- ---- nothing is handed out

-- at one stage
pub hands_same : (o : Option Decoder) (stage : Stage) → Hands o stage stage []
hands_same o stage packets l = subst (DecodesAt o stage) (sym (append-nil packets)) l

-- when it is closed
pub hands_shut : (o : Option Decoder) (stage : Stage) → Hands o stage stages.Closed []
hands_shut o stage packets l = grind (arith, nat_tests, append-nil, at_decoded)

-- when its client said what it wants
pub hands_start : (o : Option Decoder) (stage : Stage) → IsFirst stage →
    o ≡ Some (decoder_for stage) → Hands o stages.Hand stage []
hands_start o stage first is packets l = grind (arith, nat_tests)

-- some packets, and then others
pub hands_onward : (o : Option Decoder) (a b c : Stage) (packets others : List Sent) →
    Hands o a b packets → Hands o b c others
    → Hands o a c (packets ++ others)
hands_onward o a b c packets others first second earlier l =
    subst (DecodesAt o c) (append_assoc earlier packets others)
    (second (earlier ++ packets) (first earlier l))

-- ---- answers

-- an answer
pub hands_status : (o : Option Decoder) (packet : StatusDown) →
    IsClear for_status (of_status packet)
    → Hands o stages.Status stages.Status (of_status packet ∷ [])
hands_status o packet c earlier l = grind (arith, nat_tests, decodes_more)

-- the last answer
pub hands_done : (o : Option Decoder) (packet : StatusDown) → IsClear for_status (of_status packet)
    → Hands o stages.Status stages.Closed (of_status packet ∷ [])
hands_done o packet c earlier l = grind (arith, nat_tests, hands_status, decoded_by)

-- the first packets of a connection
first_decodes : (decoder end : Decoder) (packets : List Sent) → Decodes decoder packets end →
    (earlier : List Sent) → earlier ≡ []
    → Decodes decoder (earlier ++ packets) end
first_decodes decoder end packets h earlier none = let P : List Sent → Type 0 =
    λ ps. Decodes decoder (ps ++ packets) end in subst P (sym none) h

-- a client that may play
pub hands_welcome : (o : Option Decoder) (uuid : ℕ) (name : List ℕ) → is_name name ≡ true
    → Hands o stages.Login stages.Play (accepted uuid name)
unfolding accepted
hands_welcome o uuid name is earlier l = (
  l.0,
  first_decodes for_login for_play _
      (success_clear (uuid_text uuid) name (uuid_short uuid) (name_short name is), refl) earlier
      l.1,
)

-- words to one that logs in
first_words : (o : Option Decoder) (packets : List Sent) → Decodes for_login packets for_login →
    (earlier : List Sent)
    → (o ≡ Some for_login) × (earlier ≡ []) → AreDecoded o (earlier ++ packets)
first_words o packets h earlier l = grind (arith, nat_tests, decoded_by, first_decodes)

-- one that may not
pub hands_refusal : (o : Option Decoder) (why : Refusal) →
    Hands o stages.Login stages.Closed (refused why)
unfolding refused
hands_refusal o why = first_words o _
    (refusal_clear (chat_json (refusal_text why)) (refusal_short why), refl)

-- ---- last words

-- before play
login_text_decodes : (text : Option (List ℕ)) → AreShortWords text
    → Decodes for_login (as_chat (λ json. of_login (login_down.Disconnect json)) text) for_login
login_text_decodes None s = refl
login_text_decodes (Some text) s = (refusal_clear (chat_json text) s, refl)

-- in play
play_text_decodes : (text : Option (List ℕ)) → AreShortWords text
    → Decodes for_play (as_chat (λ json. of_play (down.Disconnect json)) text) for_play
play_text_decodes None s = refl
play_text_decodes (Some text) s = (leave_clear (chat_json text) s, refl)

-- words to one that plays
last_words : (o : Option Decoder) (packets : List Sent) → Decodes for_play packets for_play →
    (earlier : List Sent)
    → (o ≡ Some for_login) × Decodes for_login earlier for_play → AreDecoded o (earlier ++ packets)
last_words o packets h earlier l = grind (arith, nat_tests, decoded_by, decodes_more)

-- at each stage
pub hands_farewell : (o : Option Decoder) (stage : Stage) (cause : Cause) →
    Hands o stage stages.Closed (farewell stage cause)
unfolding farewell
hands_farewell o stages.Hand cause = hands_shut o stages.Hand
hands_farewell o stages.Status cause = hands_shut o stages.Status
hands_farewell o stages.Login cause =
    first_words o _ (login_text_decodes (farewell_text cause) (farewell_short cause))
hands_farewell o stages.Asked cause =
    first_words o _ (login_text_decodes (farewell_text cause) (farewell_short cause))
hands_farewell o stages.Play cause =
    last_words o _ (play_text_decodes (farewell_text cause) (farewell_short cause))
hands_farewell o stages.Closed cause = hands_shut o stages.Closed

-- ---- play

-- packets of play
pub hands_play : (o : Option Decoder) (packets : List Sent) → Decodes for_play packets for_play →
    Hands o stages.Play stages.Play packets
hands_play o packets h earlier l = grind (arith, nat_tests, decodes_more)
