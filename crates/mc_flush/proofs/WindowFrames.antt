-- The title of a chest's window, and slots of it one part after another.
use Rattle.std.proofs.Common.{◌≡◌, ℕ, ◌+◌, List, [], ◌∷◌, ◌++◌, length, refl, sym, ap}
use Rattle.std.proofs.Common.{◌∙◌, arith, append_assoc}
use Rattle.std.specs.Prelude.{codes, if◌then◌else◌}
use Rattle.serde_json.proofs.OnLiterals.{serde_json_on_literals}
use lib.IntN.{ℤ, pos}
use Rattle.mc_slots.specs.declared.slot.Slot.{Slot}
use Rattle.mc_packets.specs.declared.down.Down.{Down}
use Rattle.mc_packets.specs.declared.down.Down.TheVariants.{SetSlot}
use Rattle.mc_model.specs.Delta.{is_same_slot, slot_packets}
use Rattle.mc_model.specs.Texts.{chat_json}
use Rattle.mc_sending.specs.Sending.{play_bytes}
use Rattle.mc_sending.proofs.Pieces.{play_bytes-append}

-- the title of a chest
pub title_is : codes "{\"text\":\"Chest\"}" ≡ chat_json (codes "Chest")
unfolding chat_json serde_json_on_literals
title_is = refl

-- ---- slots

-- those that differ of two parts, one behind the other
pub slots_joined : (window : ℤ) (i : ℕ) (olds news older newer : List Slot) →
    length olds ≡ length news → slot_packets window i (olds ++ older) (news ++ newer)
    ≡ slot_packets window i olds news ++ slot_packets window (i + length news) older newer
slots_joined window i [] [] older newer same =
    ap (λ (n : ℕ). slot_packets window n older newer) (omega arith)
slots_joined window i [] (new ∷ news) older newer same = absurd (omega (arith, same))
slots_joined window i (old ∷ olds) [] older newer same = absurd (omega (arith, same))
slots_joined window i (old ∷ olds) (new ∷ news) older newer same =
    ap (λ (ps : List Down). first ++ ps)
    (slots_joined window (i + 1) olds news older newer (omega (arith, same))
    ∙ ap (λ (n : ℕ). slot_packets window (i + 1) olds news ++ slot_packets window n older newer)
    (omega arith))
    ∙ sym (append_assoc first (slot_packets window (i + 1) olds news)
    (slot_packets window (i + length (new ∷ news)) older newer))
  where
    first : List Down
    first = if is_same_slot old new then [] else SetSlot window (pos i) new ∷ []

-- what is appended of both, where the first is of so many
pub slots_put : (window : ℤ) (n : ℕ) (olds news older newer : List Slot) (out one : List ℕ) →
    length olds ≡ n → length news ≡ n →
    one ≡ out ++ play_bytes (slot_packets window 0 olds news) →
    one ++ play_bytes (slot_packets window n older newer)
    ≡ out ++ play_bytes (slot_packets window 0 (olds ++ older) (news ++ newer))
slots_put window n olds news older newer out one before now first =
    ap (λ (t : List ℕ). t ++ play_bytes b) first ∙ append_assoc out (play_bytes a) (play_bytes b)
    ∙ ap (λ (t : List ℕ). out ++ t) (sym (play_bytes-append a b))
    ∙ ap (λ (k : ℕ). out ++ play_bytes (a ++ slot_packets window k older newer))
    (omega (arith, now))
    ∙ ap (λ (ps : List Down). out ++ play_bytes ps)
    (sym (slots_joined window 0 olds news older newer (before ∙ sym now)))
  where
    a : List Down
    a = slot_packets window 0 olds news

    b : List Down
    b = slot_packets window n older newer
