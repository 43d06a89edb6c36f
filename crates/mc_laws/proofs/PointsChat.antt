-- What the packets of chat make of what a client sees: what was said to it is what is wanted.
use Rattle.std.proofs.Common.{ℕ, List, [], ◌∷◌, ◌++◌, map, sym, ap, refl, arith}
use Rattle.std.proofs.Math.Seq.{drop-append_seam}
use Rattle.std.proofs.lemmas.Bool.Decides.{nat_tests}
use Rattle.std.proofs.lemmas.List.{append_assoc, append-nil}
use Rattle.mc_model.specs.Sight.{Sight}
use Rattle.mc_model.specs.Replica.{apply}
use Rattle.mc_model.specs.Delta.{Follows, chat_packet, chat_point}
use Rattle.mc_laws.proofs.Leading.{Leads, onward, no_packets, led}

-- with these texts
abbrev with_chat : Sight → List (List ℕ) → Sight
with_chat s chat = record s { chat = chat }

-- a packet of chat shows one text more
text_leads : (s : Sight) (chat : List (List ℕ)) (text : List ℕ) →
    Leads (with_chat s chat) (chat_packet text ∷ []) (with_chat s (chat ++ text ∷ []))
unfolding apply
text_leads s chat text = record { is = refl }

-- and several show as many
texts_lead : (s : Sight) (chat more : List (List ℕ)) →
    Leads (with_chat s chat) (map chat_packet more) (with_chat s (chat ++ more))
texts_lead s chat [] =
    led refl (ap (with_chat s) (sym (append-nil chat))) (no_packets (with_chat s chat))
texts_lead s chat (text ∷ more) =
    led refl (ap (with_chat s) (append_assoc chat (text ∷ []) more))
    (onward (text_leads s chat text) (texts_lead s (chat ++ text ∷ []) more))

-- what was said is what is wanted
pub chat_point_leads : (p q s : Sight) → Follows p q →
    Leads (record s { chat = p.chat }) (chat_point p q) (record s { chat = q.chat })
chat_point_leads p q s follows = grind (arith, nat_tests, drop-append_seam, led, texts_lead)
