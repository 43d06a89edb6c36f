-- What is noted for a client is packets that it decodes, and that change nothing of its replica.
use Rattle.std.proofs.Common.{◌≡◌, Bool, true, false, cond, List, [], ◌∷◌, ◌++◌, map, length}
use Rattle.std.proofs.Common.{refl, sym, ap, ◌∙◌, Option, Some, None}
use Rattle.std.specs.Prelude.{◌==◌, if◌then◌else◌, replicate}
use Rattle.mc_fields.specs.declared.position.Spot.{Spot}
use Rattle.mc_slots.specs.declared.pile.Pile.{Pile}
use Rattle.mc_slots.specs.declared.slot.Slot.{Slot}
use Rattle.mc_slots.specs.declared.slot.Slot.TheVariants as slots
use Rattle.mc_slots.specs.Pile.{slot_of}
use Rattle.mc_packets.specs.declared.down.Down.{Down}
use Rattle.mc_windows.specs.Pack.{PackValue, IsPack}
use Rattle.mc_model.specs.declared.notes.Answered.{Answered}
use Rattle.mc_model.specs.declared.notes.Notes.{Notes}
use Rattle.mc_model.specs.Delta.{IsTold}
use Rattle.mc_model.specs.Notes.{confirm_packet, notes_of, window_items, window_packets}
use Rattle.mc_model.specs.Opening.{placing}
use Rattle.mc_model.specs.Packets.{for_play, of_play}
use Rattle.mc_model.specs.Replica.{apply, seeing}
use Rattle.mc_model.specs.Sight.{ChestWindow, Sight, window_seen}
use Rattle.mc_model.specs.Fitting.{SpotFits}
use Rattle.mc_model.proofs.AllFacts.{all_joined}
use Rattle.mc_model.proofs.Decodes.{IsClear}
use Rattle.mc_model.proofs.FitsList.{AreClear}
use Rattle.mc_model.proofs.FitsNotes.{NotesFit}
use Rattle.mc_model.proofs.FitsSlots.{ChestFits, window_clear}
use Rattle.mc_laws.proofs.FitsDue.{placing_clear}
use Rattle.mc_laws.proofs.Leading.{Leads, led, mapped_keep, no_packets, onward}
use Rattle.mc_laws.proofs.PointsWindow.{items_told, with_window}

-- answers to clicks change nothing of a replica
pub confirms_keep : (s : Sight) (confirms : List Answered) →
    Leads s (map confirm_packet confirms) s
unfolding apply
confirms_keep s confirms = mapped_keep s confirm_packet (λ c. record { is = refl }) confirms

-- Packets of what else is noted for a player that is at a spot, carries a pack and may be shown a
-- chest: they are decoded where that can be told, and who sees that window, pack and cursor sees
-- what it saw.
pub record Owes (notes : Notes) (spot : Spot) (pack : PackValue) (chest : Option (List Pile))
    (packets : List Down) : Type 0 where
  pub clear : NotesFit notes → SpotFits spot → IsPack pack.slots pack.cursor →
      ChestFits pack.window chest → AreClear packets
  pub keeps : (s : Sight) → IsTold s → s.window ≡ window_seen pack chest →
      s.pack ≡ map slot_of pack.slots → s.cursor ≡ slot_of pack.cursor → Leads s packets s

-- its slots are those of a window and a pack that are there
items_keep : (s : Sight) (pack : PackValue) (chest : Option (List Pile)) → IsTold s →
    s.window ≡ window_seen pack chest → s.pack ≡ map slot_of pack.slots →
    Leads s (window_items pack chest ∷ []) s
unfolding apply
items_keep s pack None told shown same = record {
  is = ap seeing (cases (length (replicate 9 slots.Empty ++ map slot_of pack.slots) == 45));
}
  where
    cases : (b : Bool) → cond b (record s { pack = map slot_of pack.slots }) s ≡ s
    cases true = λ i. record s { pack = sym same i }
    cases false = refl
items_keep s pack (Some piles) told shown same = led there (sym there) (record {
  is = ap seeing (items_told s w w all all refl (told.window w shown)
      (ap length (sym same) ∙ told.pack));
})
  where
    w : ChestWindow
    w = record { number = pack.window; slots = map slot_of piles }

    all : List Slot
    all = map slot_of pack.slots

    there : s ≡ with_window s (Some w) all
    there = λ i. with_window s (shown i) (same i)

-- and so is what hangs on its cursor
window_keeps : (s : Sight) (pack : PackValue) (chest : Option (List Pile)) → IsTold s →
    s.window ≡ window_seen pack chest → s.pack ≡ map slot_of pack.slots →
    s.cursor ≡ slot_of pack.cursor → Leads s (window_packets pack chest) s
unfolding apply
window_keeps s pack chest told shown same held = onward (items_keep s pack chest told shown same)
    (record { is = λ i. seeing (record s { cursor = sym held i }) })

module _ (notes : Notes) (spot : Spot) (pack : PackValue) (chest : Option (List Pile)) where
  -- those of two notes
  both : {xs ys : List Down} → Owes notes spot pack chest xs → Owes notes spot pack chest ys →
      Owes notes spot pack chest (xs ++ ys)
  both {xs} {ys} a b = record {
    clear = λ fit at is fits. all_joined (λ (packet : Down). IsClear for_play (of_play packet))
        xs ys (a.clear fit at is fits) (b.clear fit at is fits);
    keeps = λ s told shown same held.
        onward (a.keeps s told shown same held) (b.keeps s told shown same held);
  }

  -- those of one that may not be noted
  maybe : {xs : List Down} (b : Bool) → Owes notes spot pack chest xs →
      Owes notes spot pack chest (if b then xs else [])
  maybe true owes = owes
  maybe false owes = record {
    clear = λ fit at is fits. tt;
    keeps = λ s told shown same held. no_packets s;
  }

  -- those of all, note by note; where a player is is no part of a replica
  pub notes_owe : Owes notes spot pack chest (notes_of notes spot pack chest)
  unfolding apply
  notes_owe =
      let place : Owes notes spot pack chest (if notes.placing then placing spot ∷ [] else []) =
      maybe notes.placing (record {
        clear = λ fit at is fits. (placing_clear spot at, tt);
        keeps = λ s told shown same held. record { is = refl };
      }) in
      let window : Owes notes spot pack chest
      (if notes.resend then window_packets pack chest else []) =
      maybe notes.resend (record {
        clear = λ fit at is fits. window_clear pack chest is fits;
        keeps = λ s told shown same held. window_keeps s pack chest told shown same held;
      }) in
      both place window
