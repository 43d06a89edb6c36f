-- What the packets of windows and of slots make of what a client sees: it is shown the chest's
-- window that is wanted, its pack is the one that is wanted, and so is what hangs on its cursor.
use Rattle.std.proofs.Common.{◌≡◌, ℕ, ◌+◌, ◌<◌, ◌≤◌, Bool, true, false, cond, List, [], ◌∷◌, ◌++◌}
use Rattle.std.proofs.Common.{length, refl, sym, ap, subst, ◌∙◌, inl, inr, arith}
use Rattle.std.specs.Prelude.{◌-◌, ◌==◌, drop, not, replicate, slice_set, take, Option, Some, None}
use Rattle.std.specs.Int.{cast_signed, w8}
use Rattle.std.proofs.Math.Seq.{drop-append_seam, set-append_seam, take-append_seam, take-set-lt}
use Rattle.std.proofs.lemmas.Bool.Decides.{leb_tells, nat_tests}
use Rattle.std.proofs.lemmas.Int.{to_z_pos}
use Rattle.std.proofs.lemmas.List.{append_assoc, drop-set-add, drop-set-lt, length-append}
use Rattle.std.proofs.lemmas.List.{take-set-le}
use lib.IntN.{ℤ, pos}
use Rattle.mc_slots.specs.declared.slot.Slot.{Slot}
use Rattle.mc_slots.specs.declared.slot.Slot.TheVariants as slots
use Rattle.mc_slots.specs.Chest.{chest_size}
use Rattle.mc_packets.specs.declared.down.Down.{Down}
use Rattle.mc_packets.specs.declared.down.Down.TheVariants.{SetSlot}
use Rattle.mc_windows.specs.declared.pack.TheConstants.{LAST_WINDOW}
use Rattle.mc_windows.specs.Pack.{pack_size}
use Rattle.mc_model.specs.Sight.{ChestWindow, Sight}
use Rattle.mc_model.specs.Replica.{apply, seeing, with_items, with_shown_slot}
use Rattle.mc_model.specs.Replica.{with_window as with_number}
use Rattle.mc_model.specs.Delta.{Follows, IsChestWindow, closing_packets, cursor_packet}
use Rattle.mc_model.specs.Delta.{cursor_point, is_same_slot, opening_packets, slot_packets}
use Rattle.mc_model.specs.Delta.{window_changes, window_point}
use Rattle.mc_laws.proofs.Leading.{Leads, onward, no_packets, led}
use Rattle.mc_laws.proofs.PointsEntities.{same_slot}

-- ---- slots

-- where a packet makes a slot another, it does so if it is sent only where the two differ
slot_leads : (at : Slot → Sight) (old new : Slot) (packet : Down) →
    Leads (at old) (packet ∷ []) (at new) →
    Leads (at old) (cond (is_same_slot old new) [] (packet ∷ [])) (at new)
slot_leads at old new packet leads =
    grind (arith, nat_tests, led, same_slot, no_packets, leads)

-- Where a packet about each of so many slots makes it another, the packets about those that differ
-- make others of all.
module _ (at : List Slot → Sight) (window : ℤ) (start size : ℕ)
    (puts : (front later : List Slot) (old new : Slot) → length front < size →
    Leads (at (front ++ old ∷ later)) (SetSlot window (pos (length front + start)) new ∷ [])
    (at (front ++ new ∷ later))) where
  -- one slot, of which there is a packet where it differs
  one_leads : (front later : List Slot) (old new : Slot) (i : ℕ) → length front + start ≡ i →
      length front < size →
      Leads (at (front ++ old ∷ later))
      (cond (is_same_slot old new) [] (SetSlot window (pos i) new ∷ []))
      (at (front ++ new ∷ later))
  one_leads front later old new i e few = slot_leads (λ (item : Slot). at (front ++ item ∷ later))
      old new (SetSlot window (pos i) new) (subst (λ (k : ℕ). Leads (at (front ++ old ∷ later))
      (SetSlot window (pos k) new ∷ []) (at (front ++ new ∷ later))) e
      (puts front later old new few))

  -- all slots behind some first ones
  slots_lead : (front olds news : List Slot) (i : ℕ) → length front + start ≡ i →
      length olds ≡ length news → length front + length olds ≡ size →
      Leads (at (front ++ olds)) (slot_packets window i olds news) (at (front ++ news))
  slots_lead front [] [] i e same all = no_packets (at (front ++ []))
  slots_lead front [] (new ∷ news) i e same all = absurd (omega (arith, same))
  slots_lead front (old ∷ olds) [] i e same all = absurd (omega (arith, same))
  slots_lead front (old ∷ olds) (new ∷ news) i e same all =
      let grown : length (front ++ new ∷ []) ≡ length front + 1 =
      length-append front (new ∷ []) in
      onward (one_leads front olds old new i e (omega (arith, all)))
      (led (ap at (sym (append_assoc front (new ∷ []) olds)))
      (ap at (append_assoc front (new ∷ []) news))
      (slots_lead (front ++ new ∷ []) olds news (i + 1) (omega (arith, grown, e))
      (omega (arith, same)) (omega (arith, grown, all))))

-- ---- window 0

-- with a chest's window, if one is shown, and with a pack
abbrev pub with_window : Sight → Option ChestWindow → List Slot → Sight
with_window s window pack = record s { window = window; pack = pack }

-- a slot of the pack is another
own_leads : (s : Sight) (window : Option ChestWindow) (front later : List Slot) (old new : Slot) →
    length front < pack_size →
    Leads (with_window s window (front ++ old ∷ later))
    (SetSlot (pos 0) (pos (length front + 9)) new ∷ [])
    (with_window s window (front ++ new ∷ later))
unfolding apply
own_leads s window front later old new few = record {
  is = ap seeing (grind (arith, nat_tests, few, set-append_seam front old later new));
}

-- a chest's window is shown no more
closing_leads : (s : Sight) (old : Option ChestWindow) (pack : List Slot) →
    Leads (with_window s old pack) (closing_packets old) (with_window s None pack)
unfolding apply
closing_leads s None pack = no_packets (with_window s None pack)
closing_leads s (Some old) pack = record { is = refl }

-- ---- the window of a chest

-- all slots of the window of a number: those of the chest, and behind them those of the pack
abbrev with_all : Sight → ℕ → List Slot → Sight
with_all s number all = with_window s
    (Some (record { number = number; slots = take chest_size all })) (drop chest_size all)

-- they are those of a window and of a pack
all_of : (s : Sight) (w : ChestWindow) (pack : List Slot) (number : ℕ) → w.number ≡ number →
    length w.slots ≡ chest_size →
    with_window s (Some w) pack ≡ with_all s number (w.slots ++ pack)
all_of s w pack number same size =
    let front = take-append_seam w.slots pack in
    let behind = drop-append_seam w.slots pack in
    let chest = rw size at front in
    let carried = rw size at behind in
    λ i. with_window s (Some (record { number = same i; slots = sym chest i })) (sym carried i)

-- one of them is another
shown_set : (s : Sight) (number : ℕ) (all : List Slot) (i : ℕ) (new : Slot) →
    i < chest_size + pack_size →
    with_shown_slot (record { number = number; slots = take chest_size all }) i new
    (with_all s number all) ≡ with_all s number (slice_set all i new)
shown_set s number all i new few = elim (leb_tells chest_size i) [
  | inl past ↦ (let behind = past.1 in
      let at : chest_size + (i - chest_size) ≡ i = omega (arith, behind) in
      let chest = take-set-le chest_size all i new behind in
      let pack = drop-set-add chest_size all (i - chest_size) new in
      grind (arith, nat_tests, few, behind, at, chest, pack))
  | inr before ↦ (let less = before.1 in
      let chest = take-set-lt chest_size all i new less in
      let pack = drop-set-lt chest_size all i new less in
      grind (arith, nat_tests, less, chest, pack))
]

-- by a packet that tells the number as a byte with a sign
shown_leads : (s : Sight) (number : ℕ) (front later : List Slot) (old new : Slot) →
    1 ≤ number → number ≤ LAST_WINDOW → length front < chest_size + pack_size →
    Leads (with_all s number (front ++ old ∷ later))
    (SetSlot (cast_signed w8 number) (pos (length front + 0)) new ∷ [])
    (with_all s number (front ++ new ∷ later))
unfolding apply
shown_leads s number front later old new low high few =
    let set = shown_set s number (front ++ old ∷ later) (length front) new few in
    let seam = set-append_seam front old later new in
    rw (to_z_pos w8 number (omega (arith, high))) (record {
      is = ap seeing (grind (arith, nat_tests, set, seam));
    })

-- the slots that differ of a window that stays
same_leads : (s : Sight) (old new : ChestWindow) (olds news : List Slot) → IsChestWindow old →
    IsChestWindow new → old.number ≡ new.number → length olds ≡ pack_size →
    length news ≡ pack_size →
    Leads (with_window s (Some old) olds)
    (slot_packets (cast_signed w8 new.number) 0 (old.slots ++ olds) (new.slots ++ news))
    (with_window s (Some new) news)
same_leads s old new olds news was is same size wanted =
    let before = length-append old.slots olds in
    let after = length-append new.slots news in
    led (all_of s old olds new.number same was.size)
    (sym (all_of s new news new.number refl is.size))
    (slots_lead (with_all s new.number) (cast_signed w8 new.number) 0 (chest_size + pack_size)
    (λ front later a b few. shown_leads s new.number front later a b is.low is.high few)
    [] (old.slots ++ olds) (new.slots ++ news) 0 refl
    (omega (arith, before, after, was.size, is.size, size, wanted))
    (omega (arith, before, was.size, size)))

-- all slots of a window are told
pub items_told : (s : Sight) (old new : ChestWindow) (olds pack : List Slot) →
    old.number ≡ new.number → IsChestWindow new → length pack ≡ pack_size →
    with_items new.number (new.slots ++ pack) (with_window s (Some old) olds)
    ≡ with_window s (Some new) pack
items_told s old new olds pack same is size =
    let low = is.low in
    let slots = is.size in
    let many = length-append new.slots pack in
    let told = all_of s new pack new.number refl slots in
    grind (arith, nat_tests, low, many, slots, size, same, told)

-- a window of another number opens
opening_leads : (s : Sight) (old : Option ChestWindow) (new : ChestWindow) (olds news : List Slot)
    → IsChestWindow new → length news ≡ pack_size →
    Leads (with_window s old olds) (opening_packets new news) (with_window s (Some new) news)
unfolding apply
opening_leads s old new olds news is size = record {
  is = ap (λ (t : Sight). seeing (with_items new.number (new.slots ++ news) t)) opened
      ∙ ap seeing (items_told s empty new olds news refl is size);
}
  where
    empty : ChestWindow
    empty = record { number = new.number; slots = replicate chest_size slots.Empty }

    opened : with_number new.number (with_window s old olds) ≡ with_window s (Some empty) olds
    opened = let low = is.low in grind (arith, nat_tests, low)

-- ---- the window and the pack

-- a window that is shown stays, or another opens
stays_leads : (s : Sight) (old : Option ChestWindow) (new : ChestWindow) (olds news : List Slot) →
    ((w : ChestWindow) → old ≡ Some w → IsChestWindow w) → IsChestWindow new →
    length olds ≡ pack_size → length news ≡ pack_size →
    Leads (with_window s old olds) (window_changes old (Some new) olds news)
    (with_window s (Some new) news)
stays_leads s None new olds news was is size wanted = opening_leads s None new olds news is wanted
stays_leads s (Some old) new olds news was is size wanted = cases (old.number == new.number) refl
  where
    cases : (same : Bool) → (old.number == new.number) ≡ same →
        Leads (with_window s (Some old) olds)
        (cond (not same) (opening_packets new news) (slot_packets (cast_signed w8 new.number) 0
        (old.slots ++ olds) (new.slots ++ news)))
        (with_window s (Some new) news)
    cases true t = same_leads s old new olds news (was old refl) is
        (grind (arith, nat_tests)) size wanted
    cases false t = opening_leads s (Some old) new olds news is wanted

windows_lead : (s : Sight) (old new : Option ChestWindow) (olds news : List Slot) →
    ((w : ChestWindow) → old ≡ Some w → IsChestWindow w) →
    ((w : ChestWindow) → new ≡ Some w → IsChestWindow w) →
    length olds ≡ pack_size → length news ≡ pack_size →
    Leads (with_window s old olds) (window_changes old new olds news) (with_window s new news)
windows_lead s old None olds news was is size wanted = onward (closing_leads s old olds)
    (slots_lead (with_window s None) (pos 0) 9 pack_size
    (λ front later a b few. own_leads s None front later a b few) [] olds news 9 refl
    (size ∙ sym wanted) (omega (arith, size)))
windows_lead s old (Some new) olds news was is size wanted =
    stays_leads s old new olds news was (is new refl) size wanted

-- they are those that are wanted
pub window_point_leads : (p q s : Sight) → Follows p q →
    Leads (with_window s p.window p.pack) (window_point p q) (with_window s q.window q.pack)
window_point_leads p q s follows = windows_lead s p.window q.window p.pack q.pack
    follows.old.window follows.new.window follows.old.pack follows.new.pack

-- ---- the cursor

-- with something on it
abbrev pub with_held : Sight → Slot → Sight
with_held s item = record s { cursor = item }

-- what is wanted hangs on it
pub cursor_point_leads : (p q s : Sight) →
    Leads (with_held s p.cursor) (cursor_point p q) (with_held s q.cursor)
unfolding apply
cursor_point_leads p q s = slot_leads (with_held s) p.cursor q.cursor (cursor_packet q.cursor)
    (record { is = refl })
