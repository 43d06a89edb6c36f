-- What is shown of the window of a chest can be told by packets.
use Rattle.std.proofs.Common.{◌≡◌, ℕ, ◌≤◌, true, List, map, Option, Some, None, refl, subst}
use Rattle.std.proofs.Common.{◌∙◌, arith}
use Rattle.std.specs.Prelude.{is_some}
use Rattle.std.specs.Option.{option_and_then}
use Rattle.std.proofs.lemmas.Bool.Decides.{nat_tests}
use Rattle.std.proofs.lemmas.List.{length-map}
use Rattle.mc_fields.specs.declared.position.Cell.{Cell}
use Rattle.mc_slots.specs.declared.pile.Pile.{Pile}
use Rattle.mc_slots.specs.Chest.{IsChest}
use Rattle.mc_slots.specs.Pile.{slot_of}
use Rattle.mc_windows.specs.declared.pack.TheConstants.{LAST_WINDOW}
use Rattle.mc_windows.specs.Pack.{PackValue}
use Rattle.mc_model.specs.declared.player.Player.{Player}
use Rattle.mc_model.specs.Delta.{IsChestWindow}
use Rattle.mc_model.specs.Game.{Game, chest_at, chest_of, pack_named, pack_of}
use Rattle.mc_model.specs.Good.{AreChests, AreShown, IsShown}
use Rattle.mc_model.specs.Sight.{ChestWindow, window_seen}
use Rattle.mc_model.proofs.FitsDue.{WindowFits}
use Rattle.mc_model.proofs.FitsSlots.{ChestFits, piles_fit}
use Rattle.mc_model.proofs.Maps.Options.{some_is}
use Rattle.mc_laws.proofs.Deeds.Chests.{lies_chest}

-- the window of what any name carries has a number that is told
window_high : (g : Game) (name : List ℕ) → AreShown g →
    (pack_named g name).window ≤ LAST_WINDOW
window_high g name shown = grind (arith, nat_tests, shown.numbers name)

-- what a player is shown is a chest, and it is shown one then
shown_chest : (g : Game) (chest : Option Cell) (piles : List Pile) → AreChests g →
    option_and_then (chest_at g) chest ≡ Some piles → IsChest piles × (is_some chest ≡ true)
shown_chest g None piles chests is = absurd cc
shown_chest g (Some cell) piles chests is =
    (lies_chest g cell chests piles is, refl)

-- what holds of the window of a chest that is shown holds of the window that is seen
seen_window : (P : ChestWindow → Type 0) (pack : PackValue) (chest : Option (List Pile))
    (w : ChestWindow) →
    ((piles : List Pile) → chest ≡ Some piles →
    P (record { number = pack.window; slots = map slot_of piles })) →
    window_seen pack chest ≡ Some w → P w
seen_window P pack None w each is = absurd cc
seen_window P pack (Some piles) w each is = subst P (some_is _ w is) (each piles refl)

-- packets can tell it
pub window_told : (g : Game) (p : Player) (w : ChestWindow) → AreChests g → AreShown g →
    IsShown g p → window_seen (pack_of g p) (chest_of g p) ≡ Some w → IsChestWindow w
window_told g p w chests all shown is =
    seen_window IsChestWindow (pack_of g p) (chest_of g p) w (λ piles there.
    let chest = shown_chest g p.chest piles chests there in
    let some = chest.1 in
    let number = shown.number in
    record {
      low = grind (arith, nat_tests, number, some);
      high = window_high g p.name all;
      size = length-map piles slot_of ∙ chest.0.size;
    }) is

-- packets of it fit
pub window_fits : (g : Game) (p : Player) (w : ChestWindow) → AreChests g → AreShown g →
    window_seen (pack_of g p) (chest_of g p) ≡ Some w → WindowFits w
window_fits g p w chests all is = seen_window WindowFits (pack_of g p) (chest_of g p) w
    (λ piles there.
    let chest = (shown_chest g p.chest piles chests there).0 in
    let high = window_high g p.name all in
    let size = length-map piles slot_of in
    let chest_is = chest.size in
    record {
      small = omega (arith, high);
      few = omega (arith, size, chest_is);
      slots = piles_fit piles chest.are_piles;
    }) is

-- and so do those of all its slots
pub chest_fits : (g : Game) (p : Player) → AreChests g → AreShown g →
    ChestFits (pack_of g p).window (chest_of g p)
chest_fits g p chests all = elim (chest_of g p) as (λ o. chest_of g p ≡ o →
    ChestFits (pack_of g p).window o) [
      | None ↦ λ none. tt
      | Some piles ↦ λ some.
          (window_high g p.name all, (shown_chest g p.chest piles chests some).0)
    ] refl
