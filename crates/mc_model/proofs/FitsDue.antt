-- What is due to a client at a tick is packets that it decodes.
use Rattle.std.proofs.Common.{◌≡◌, ℕ, ◌+◌, ◌<◌, ◌≤◌, Bool, true, false, cond, List, [], ◌∷◌, ◌++◌}
use Rattle.std.proofs.Common.{length, Option, Some, None, refl, lit<, lit≤, arith}
use Rattle.std.specs.Prelude.{codes}
use Rattle.std.specs.Int.{cast_signed, w8, w32, w64}
use Rattle.std.specs.List.{AllByRecursion}
use Rattle.std.proofs.Math.Facts.{sfits_to_z}
use Rattle.std.proofs.lemmas.Bool.Decides.{nat_tests}
use Rattle.std.proofs.lemmas.List.{length-append}
use lib.IntN.{ℤ, pos, negsuc}
use mir.Val.{SFits}
use Rattle.mc_fields.specs.TextFormat.{SpellableText}
use Rattle.mc_slots.specs.declared.slot.Slot.{Slot}
use Rattle.mc_slots.specs.Chest.{chest_size}
use Rattle.mc_column.specs.Cells.{ColumnValue}
use Rattle.mc_packets.specs.declared.down.Down.{Down}
use Rattle.mc_packets.specs.declared.down.Down.TheVariants.{CloseWindow, OpenWindow, SetSlot}
use Rattle.mc_land.specs.declared.terrain.Terrain.{Terrain}
use Rattle.mc_land.specs.Places.{Place}
use Rattle.mc_model.specs.Packets.{of_play, for_play}
use Rattle.mc_model.specs.Delta.{differing, column_changes, is_same_slot, slot_packets}
use Rattle.mc_model.specs.Delta.{beat_packets, cursor_packet, cursor_packets, time_packets}
use Rattle.mc_model.specs.Delta.{chest_slots, closing_packets, is_new_window, opening_packets}
use Rattle.mc_model.specs.Delta.{window_changes}
use Rattle.mc_model.specs.Opening.{level}
use Rattle.mc_model.specs.Sight.{ChestWindow}
use Rattle.mc_model.specs.Texts.{chat_json}
use Rattle.mc_model.proofs.Decodes.{IsClear, play_clear}
use Rattle.mc_model.proofs.FitsSize.{fields}
use Rattle.mc_model.proofs.AllFacts.{all_joined}
use Rattle.mc_model.proofs.FitsText.{IsShort, short_string, short_where, title_short}
use Rattle.mc_model.proofs.FitsBeats.{ToldFits, beat_clear, time_clear}
use Rattle.mc_model.proofs.FitsList.{AreClear}
use Rattle.mc_model.proofs.FitsChunk.{ColumnFits}
use Rattle.mc_model.proofs.FitsSlots.{SlotFits, items_clear, slot_clear}
use Rattle.mc_model.proofs.FitsCells.{cells_clear, differing_fit, differing_few}

-- the cells that change
pub column_clear : (e : Place × ColumnValue) → ColumnFits e → (old : Option ColumnValue) →
    AreClear (column_changes e.0 old e.1)
column_clear e f None = tt
column_clear e f (Some old) =
    cells_clear e.0 e.1.states (differing old.states e.1.states) f.near
    (differing_few old.states e.1.states)
    (differing_fit old.states e.1.states f.sizes.states_are f.states)

-- the slots that change
pub slots_clear : (window : ℤ) (i : ℕ) (olds news : List Slot) → SFits w8 window →
    i + length news ≤ 100 → AllByRecursion SlotFits news →
    AreClear (slot_packets window i olds news)
slots_clear window i [] news byte few f = tt
slots_clear window i (old ∷ olds) [] byte few f = tt
slots_clear window i (old ∷ olds) (new ∷ news) byte few f =
    all_joined (λ (packet : Down). IsClear for_play (of_play packet))
    (cond (is_same_slot old new) [] (SetSlot window (pos i) new ∷ []))
    (slot_packets window (i + 1) olds news) (one (is_same_slot old new))
    (slots_clear window (i + 1) olds news byte (omega (arith, few)) f.1)
  where
    one : (same : Bool) → AreClear (cond same [] (SetSlot window (pos i) new ∷ []))
    one true = tt
    one false = (slot_clear window (pos i) new byte (record { sfits = omega (arith, few) }) f.0, tt)

-- a chest's window that opens
pub open_clear : (number : ℕ) → number < 256 → IsClear for_play (of_play (OpenWindow number
    (codes "minecraft:chest") (chat_json (codes "Chest")) chest_size None))
open_clear number small = play_clear
    (OpenWindow number (codes "minecraft:chest") (chat_json (codes "Chest")) chest_size None)
    (search (fields, small, kind, title)) (omega (arith, title_short.few))
  where
    kind : SpellableText 32767 (codes "minecraft:chest")
    kind = short_string 200 (codes "minecraft:chest") (lit≤ tt) (short_where 200 _ refl)

    title : SpellableText 32767 (chat_json (codes "Chest"))
    title = short_string 200 (chat_json (codes "Chest")) (lit≤ tt) title_short

-- and closes
pub close_clear : (number : ℕ) → number < 256 →
    IsClear for_play (of_play (CloseWindow number))
close_clear number small = play_clear (CloseWindow number) (search (fields, small)) (lit< tt)

-- one that opens with its slots and those of a pack
opening_clear : (w : ChestWindow) (pack : List Slot) → w.number < 256 →
    length (w.slots ++ pack) ≤ 100 → AllByRecursion SlotFits (w.slots ++ pack) →
    AreClear (opening_packets w pack)
opening_clear w pack small few f =
    (open_clear w.number small, (items_clear w.number (w.slots ++ pack) small few f, tt))

-- the one that was shown, if there was one
closing_clear : (old : Option ChestWindow) →
    ((w : ChestWindow) → old ≡ Some w → w.number < 256) → AreClear (closing_packets old)
closing_clear None small = tt
closing_clear (Some w) small = (close_clear w.number (small w refl), tt)

-- a window whose slots fit, behind those of which a pack's do
pub record WindowFits (w : ChestWindow) : Type 0 where
  pub small : w.number < 256
  pub few : length w.slots ≤ 50
  pub slots : AllByRecursion SlotFits w.slots

-- what changes of the window and of the pack
pub windows_clear : (old new : Option ChestWindow) (olds news : List Slot) →
    ((w : ChestWindow) → old ≡ Some w → WindowFits w) →
    ((w : ChestWindow) → new ≡ Some w → WindowFits w) → length news ≤ 50 →
    AllByRecursion SlotFits news → AreClear (window_changes old new olds news)
windows_clear old None olds news f g few fit =
    all_joined (λ (packet : Down). IsClear for_play (of_play packet)) (closing_packets old)
    (slot_packets (pos 0) 9 olds news) (closing_clear old (λ w is. (f w is).small))
    (slots_clear (pos 0) 9 olds news (record { sfits = omega arith }) (omega (arith, few)) fit)
windows_clear old (Some w) olds news f g few fit = told (is_new_window old w.number)
  where
    all : AllByRecursion SlotFits (w.slots ++ news)
    all = all_joined SlotFits w.slots news (g w refl).slots fit

    size : length (w.slots ++ news) ≤ 100
    size = omega (arith, (g w refl).few, few, length-append w.slots news)

    told : (opens : Bool) → AreClear (cond opens (opening_packets w news)
        (slot_packets (cast_signed w8 w.number) 0 (chest_slots old ++ olds) (w.slots ++ news)))
    told true = opening_clear w news (g w refl).small size all
    told false = slots_clear (cast_signed w8 w.number) 0 (chest_slots old ++ olds)
        (w.slots ++ news) (sfits_to_z {w = w8} {n = w.number} (record { fits = (g w refl).small }))
        (omega (arith, size)) all

-- what hangs on the cursor
pub cursor_clear : (old new : Slot) → SlotFits new → AreClear (cursor_packets old new)
cursor_clear old new f = told (is_same_slot old new)
  where
    told : (same : Bool) → AreClear (cond same [] (cursor_packet new ∷ []))
    told true = tt
    told false = (
      slot_clear (negsuc 0) (negsuc 0) new (record { sfits = lit< tt })
          (record { sfits = lit< tt }) f,
      tt,
    )

-- the beat
pub beats_clear : (old new : Option ℤ) → ToldFits w32 new → AreClear (beat_packets old new)
beats_clear old None f = tt
beats_clear old (Some beat) f = grind (arith, nat_tests, beat_clear)

-- the age
pub times_clear : (old new : Option ℤ) → ToldFits w64 new → AreClear (time_packets old new)
times_clear old None f = tt
times_clear old (Some age) f = grind (arith, nat_tests, time_clear)

-- the kind of level is a short text
pub level_short : (terrain : Terrain) → IsShort 10 (level terrain)
level_short terrain = grind (arith, nat_tests)
