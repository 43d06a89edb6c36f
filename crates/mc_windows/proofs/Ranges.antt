-- Moves and clicks leave a pack, a chest and piles as the world holds them.
use Rattle.std.proofs.Common.{◌≡◌, ℕ, zero, suc, ◌-◌, ◌≤◌, Bool, true, false, List, [], ◌∷◌}
use Rattle.std.proofs.Common.{Option, Some, None, Result, arith, ◌∙◌}
use Rattle.std.proofs.Common.{if◌then◌else◌}
use Rattle.std.specs.Prelude.{min, option_map, slice_set}
use Rattle.std.specs.Option.{unwrap_or}
use Rattle.std.proofs.lemmas.Bool.Decides.{nat_tests}
use Rattle.std.proofs.lemmas.List.{length-set}
use lib.IntN.{ℤ}
use Rattle.mc_slots.specs.declared.pile.Item.{Item}
use Rattle.mc_slots.specs.declared.pile.Pile.{Pile}
use Rattle.mc_slots.specs.declared.pile.Pile.TheVariants.{Empty, Full}
use Rattle.mc_slots.specs.Pile.{IsItem, IsPile, is_sort, pile_of, without}
use Rattle.mc_slots.specs.Chest.{IsChest, pile_at}
use Rattle.mc_windows.specs.declared.request.Click.{Click}
use Rattle.mc_windows.specs.declared.request.Why.{Why}
use Rattle.mc_windows.specs.declared.request.Why.TheVariants.{WrongWindow}
use Rattle.mc_windows.specs.declared.place.Place.{Place}
use Rattle.mc_windows.specs.declared.place.Place.TheVariants.{Cursor, Floor, Chested, Packed}
use Rattle.mc_windows.specs.declared.order.Order.TheVariants.{PickedUp}
use Rattle.mc_windows.specs.declared.row.Row.{Row}
use Rattle.mc_windows.specs.declared.moves.How.{How}
use Rattle.mc_windows.specs.declared.moves.How.TheVariants.{Put, Merge, Swap}
use Rattle.mc_windows.specs.declared.moves.Move.{Move}
use Rattle.mc_windows.specs.declared.desk.Desk.{Desk}
use Rattle.mc_windows.specs.Pack.{IsPack, PackValue}
use Rattle.mc_windows.specs.Moves.{at, effect, exchanged, is_possible, made, poured, run, sort_of}
use Rattle.mc_windows.specs.Moves.{write}
use Rattle.mc_windows.specs.Clicks.{admitted, answer_of, chest_after, desk_of, dropped, outcome}
use Rattle.mc_windows.specs.Clicks.{pack_after, plan, refused_pack, sent, worked}
use Rattle.mc_windows.specs.Storing.{stored}
use Rattle.mc_windows.proofs.Keeping.{worked_cases}

-- ---- places

-- piles of which one is another pile
pub set_piles : (slots : List Pile) (k : ℕ) (pile : Pile) → IsPile pile →
    ((i : ℕ) → IsPile (pile_at slots i)) → (i : ℕ) → IsPile (pile_at (slice_set slots k pile) i)
set_piles [] k pile is are i = are i
set_piles (x ∷ xs) zero pile is are zero = is
set_piles (x ∷ xs) zero pile is are (suc i) = are (suc i)
set_piles (x ∷ xs) (suc k) pile is are zero = are zero
set_piles (x ∷ xs) (suc k) pile is are (suc i) =
    set_piles xs k pile is (λ j. are (suc j)) i

-- ---- parts of items

-- so many of an item of which there are no fewer are a pile
some_is_pile : (item : Item) (n : ℕ) → IsItem item → n ≤ item.count → IsPile (pile_of item n)
some_is_pile item zero is few = tt
some_is_pile item (suc n) is few = record {
  id = is.id;
  damage = is.damage;
  count = (omega arith, omega (arith, few, is.count.1));
}

-- what is left of it is one
pub left_is_pile : (item : Item) (n : ℕ) → IsItem item → IsPile (without (Full item) n)
left_is_pile item n is = some_is_pile item (item.count - n) is (omega arith)

-- ---- moves

abbrev ArePiles : Pile × Pile → Type 0
ArePiles piles = IsPile piles.0 × IsPile piles.1

poured_piles : (from onto : Item) (n : ℕ) → IsItem from → IsItem onto →
    ArePiles (poured n from onto)
poured_piles from onto n is too = (
  left_is_pile from _ is,
  record {
    id = too.id;
    damage = too.damage;
    count = (let some = too.count in (omega (arith, some.0), omega (arith, some.1)));
  },
)

effect_piles : (how : How) (from to : Pile) → IsPile from → IsPile to →
    ArePiles (effect how from to)
effect_piles (Put n) Empty Empty is too = (tt, tt)
effect_piles (Put n) Empty (Full onto) is too = (tt, too)
effect_piles (Put n) (Full item) Empty is too = (
  left_is_pile item (min n item.count) is,
  some_is_pile item (min n item.count) is (omega arith),
)
effect_piles (Put n) (Full item) (Full onto) is too = (is, too)
effect_piles (Merge n) Empty Empty is too = (tt, tt)
effect_piles (Merge n) Empty (Full onto) is too = (tt, too)
effect_piles (Merge n) (Full item) Empty is too = (is, tt)
effect_piles (Merge n) (Full item) (Full onto) is too = by_sort (is_sort (sort_of item) onto)
  where
    by_sort : (same : Bool) →
        ArePiles (if same then poured n item onto else (Full item, Full onto))
    by_sort true = poured_piles item onto n is too
    by_sort false = (is, too)
effect_piles Swap from to is too = (too, is)

-- a chest that may be shown
abbrev pub IsShown : Option (List Pile) → Type 0
IsShown None = Unit {0}
IsShown (Some piles) = IsChest piles

-- a pack, a chest that may be shown, and a pile outside them
pub record Holds (desk : Desk) : Type 0 where
  pub pack : IsPack desk.pack.slots desk.pack.cursor
  pub chest : IsShown desk.chest
  pub floor : IsPile desk.floor

shown_pile : (chest : Option (List Pile)) (i : ℕ) → IsShown chest →
    IsPile (pile_at (unwrap_or chest []) i)
shown_pile None i is = tt
shown_pile (Some piles) i is = is.are_piles i

at_pile : (desk : Desk) (place : Place) → Holds desk → IsPile (at desk place)
at_pile desk Cursor h = h.pack.is_pile
at_pile desk Floor h = h.floor
at_pile desk (Chested i) h = shown_pile desk.chest i h.chest
at_pile desk (Packed i) h = h.pack.are_piles i

set_shown : (chest : Option (List Pile)) (k : ℕ) (pile : Pile) → IsPile pile → IsShown chest →
    IsShown (option_map (λ (piles : List Pile). slice_set piles k pile) chest)
set_shown None k pile is shown = tt
set_shown (Some piles) k pile is shown = record {
  size = length-set piles k pile ∙ shown.size;
  are_piles = set_piles piles k pile is shown.are_piles;
}

write_holds : (desk : Desk) (place : Place) (pile : Pile) → IsPile pile → Holds desk →
    Holds (write desk place pile)
write_holds desk Cursor pile is h = record {
  pack = record { size = h.pack.size; are_piles = h.pack.are_piles; is_pile = is };
  chest = h.chest;
  floor = h.floor;
}
write_holds desk Floor pile is h = record { pack = h.pack; chest = h.chest; floor = is }
write_holds desk (Chested k) pile is h = record {
  pack = h.pack;
  chest = set_shown desk.chest k pile is h.chest;
  floor = h.floor;
}
write_holds desk (Packed k) pile is h = record {
  pack = record {
    size = length-set desk.pack.slots k pile ∙ h.pack.size;
    are_piles = set_piles desk.pack.slots k pile is h.pack.are_piles;
    is_pile = h.pack.is_pile;
  };
  chest = h.chest;
  floor = h.floor;
}

-- ---- one move after another

made_holds : (step : Move) (desk : Desk) → Holds desk → Holds (made step desk)
unfolding made
made_holds step desk h = by_test (is_possible desk step.from step.to)
  where
    by_test : (possible : Bool) → Holds (if possible then exchanged step desk else desk)
    by_test true =
        let piles = effect step.how (at desk step.from) (at desk step.to) in
        let are = effect_piles step.how (at desk step.from) (at desk step.to)
        (at_pile desk step.from h) (at_pile desk step.to h) in
        write_holds (write desk step.from piles.0) step.to piles.1 are.1
        (write_holds desk step.from piles.0 are.0 h)
    by_test false = h

pub run_holds : (steps : List Move) (desk : Desk) → Holds desk → Holds (run steps desk)
unfolding run
run_holds [] desk h = h
run_holds (step ∷ steps) desk h = run_holds steps (made step desk) (made_holds step desk h)

-- ---- what is picked up

pub stored_holds : (pack : PackValue) (item : Item) → IsPack pack.slots pack.cursor →
    IsItem item → Holds (stored pack item)
unfolding stored
stored_holds pack item fits is =
    run_holds (sent Floor PickedUp) (record { pack = pack; chest = None; floor = Full item })
    (record { pack = fits; chest = tt; floor = is })

-- ---- clicks

-- what comes of a click, and what is to be dropped
abbrev pub left_by : PackValue → Option (List Pile) → ℤ → Result Desk Why → Desk
left_by pack chest number came = record {
  pack = pack_after pack number came;
  chest = chest_after chest came;
  floor = dropped (answer_of came);
}

refused_is_pack : (pack : PackValue) (number : ℤ) (why : Why) → IsPack pack.slots pack.cursor →
    IsPack (refused_pack pack number why).slots (refused_pack pack number why).cursor
refused_is_pack pack number WrongWindow is = is
refused_is_pack pack number why is = is

pub click_holds : (pack : PackValue) (chest : Option (List Pile)) (click : Click) (room : Bool)
    (number : ℤ) → IsPack pack.slots pack.cursor → IsShown chest →
    Holds (left_by pack chest number (outcome pack chest click room))
click_holds pack chest click room number fits shown =
    worked_cases (λ came. Holds (left_by pack chest number came))
    (desk_of pack chest) room (admitted (desk_of pack chest) click)
    (λ row. let h = run_holds (plan (desk_of pack chest) row) (desk_of pack chest)
    (record { pack = fits; chest = shown; floor = tt }) in
    record { pack = h.pack; chest = h.chest; floor = h.floor })
    (λ why. record { pack = refused_is_pack pack number why fits; chest = shown; floor = tt })

-- something is dropped only where there is room for it
pub drops_with_room : (pack : PackValue) (chest : Option (List Pile)) (click : Click) (room : Bool)
    (item : Item) → dropped (answer_of (outcome pack chest click room)) ≡ Full item → room ≡ true
drops_with_room pack chest click room item e = of_row (admitted (desk_of pack chest) click) e
  where
    of_row : (came : Result Row Why) →
        dropped (answer_of (worked (desk_of pack chest) room came)) ≡ Full item → room ≡ true
    of_row came e = grind (arith, nat_tests)
