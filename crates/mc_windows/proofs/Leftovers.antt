-- What is left of an item that is picked up is some of it, and with the pack it makes up what there
-- was.
use Rattle.std.proofs.Common.{◌≡◌, ℕ, zero, suc, ◌+◌, ◌-◌, ◌≤◌, Bool, true, false, List}
use Rattle.std.proofs.Common.{Option, None, refl, arith, sym, subst, ap, ◌∙◌}
use Rattle.std.proofs.Common.{if◌then◌else◌}
use Rattle.std.proofs.lemmas.Bool.Decides.{nat_tests}
use Rattle.mc_slots.specs.declared.pile.Item.{Item}
use Rattle.mc_slots.specs.declared.pile.Pile.{Pile}
use Rattle.mc_slots.specs.declared.pile.Pile.TheVariants.{Empty, Full}
use Rattle.mc_slots.specs.Pile.{IsAlike, IsPile, Sort, count_of, held, pile_of}
use Rattle.mc_slots.specs.Pile.{without}
use Rattle.mc_windows.specs.declared.place.Place.TheVariants.{Floor, Packed}
use Rattle.mc_windows.specs.declared.order.Order.TheVariants.{PickedUp}
use Rattle.mc_windows.specs.declared.moves.How.{How}
use Rattle.mc_windows.specs.declared.moves.How.TheVariants.{Put, Merge, Swap}
use Rattle.mc_windows.specs.declared.desk.Desk.{Desk}
use Rattle.mc_windows.specs.Pack.{PackValue}
use Rattle.mc_windows.specs.Stock.{in_chest, in_pack}
use Rattle.mc_windows.specs.Moves.{at, effect, exchanged, is_possible, made, move, poured, run}
use Rattle.mc_windows.specs.Clicks.{picked_up, places, sent, to_each}
use Rattle.mc_windows.specs.Storing.{stored}
use Rattle.mc_windows.proofs.Steps.{next, run_append}
use Rattle.mc_windows.proofs.Keeping.{none_left, run_keeps, shown_run}

-- some of an item, or none of it
abbrev pub IsSomeOf : Item → Pile → Type 0
IsSomeOf item Empty = Unit {0}
IsSomeOf item (Full some) = IsAlike some item × (some.count ≤ item.count)

-- a move that is no swap takes from the first pile
abbrev takes : How → Bool
takes (Put n) = true
takes (Merge n) = true
takes Swap = false

part_of : (item some : Item) (n : ℕ) → IsAlike some item → n ≤ item.count
    → IsSomeOf item (pile_of some n)
part_of item some zero alike few = tt
part_of item some (suc n) alike few = (record { id = alike.id; damage = alike.damage }, few)

without_some : (item : Item) (pile : Pile) (n : ℕ) → IsSomeOf item pile
    → IsSomeOf item (without pile n)
without_some item Empty n is = tt
without_some item (Full some) n is = part_of item some (some.count - n) is.0 (omega (arith, is.1))

poured_some : (item from onto : Item) (n : ℕ) (one : Bool) → IsSomeOf item (Full from)
    → IsSomeOf item (if one then poured n from onto else (Full from, Full onto)).0
poured_some item from onto n one is = grind (arith, nat_tests)

effect_some : (item : Item) (how : How) (from to : Pile) → takes how ≡ true → IsSomeOf item from
    → IsSomeOf item (effect how from to).0
effect_some item how from to e is = grind (arith, nat_tests)

made_some : (item : Item) (how : How) (k : ℕ) (desk : Desk) → takes how ≡ true
    → IsSomeOf item desk.floor → IsSomeOf item (made (move how Floor (Packed k)) desk).floor
unfolding made
made_some item how k desk e is = by_test (is_possible desk Floor (Packed k))
  where
    by_test : (possible : Bool)
        → IsSomeOf item (if possible then exchanged (move how Floor (Packed k)) desk
        else desk).floor
    by_test true = effect_some item how desk.floor (at desk (Packed k)) e is
    by_test false = is

each_some : (item : Item) (how : How) (n : ℕ) (desk : Desk) → takes how ≡ true
    → IsSomeOf item desk.floor → IsSomeOf item (run (to_each how Floor PickedUp n) desk).floor
unfolding run to_each
each_some item how zero desk e is = is
each_some item how (suc n) desk e is =
    let P : Desk → Type 0 = λ after. IsSomeOf item after.floor in
    subst P (sym (next how Floor PickedUp n desk))
    (made_some item how (picked_up n) (run (to_each how Floor PickedUp n) desk) e
    (each_some item how n desk e is))

pub stored_some : (pack : PackValue) (item : Item) → IsSomeOf item (stored pack item).floor
unfolding stored
stored_some pack item =
    let P : Desk → Type 0 = λ after. IsSomeOf item after.floor in
    let desk : Desk = record { pack = pack; chest = None; floor = Full item } in
    subst P (sym (run_append (to_each (Merge 64) Floor PickedUp (places PickedUp))
    (to_each (Put 64) Floor PickedUp (places PickedUp))
    (record { pack = pack; chest = None; floor = Full item })))
    (each_some item (Put 64) (places PickedUp)
    (run (to_each (Merge 64) Floor PickedUp (places PickedUp))
    (record { pack = pack; chest = None; floor = Full item })) refl
    (each_some item (Merge 64) (places PickedUp)
    (record { pack = pack; chest = None; floor = Full item }) refl
    (record { id = refl; damage = refl }, omega arith)))

-- some of an item is told by how many it is
full_is : (item some : Item) (n : ℕ) → some.count ≡ n → 1 ≤ n → IsAlike some item
    → Full some ≡ pile_of item n
full_is item some n e many alike = grind (arith, nat_tests)

pub some_is : (item : Item) (pile : Pile) → IsSomeOf item pile → IsPile pile
    → pile ≡ pile_of item (count_of pile)
some_is item Empty is pile = refl
some_is item (Full some) is pile = full_is item some some.count refl pile.count.0 is.0

pub some_few : (item : Item) (pile : Pile) → IsSomeOf item pile → count_of pile ≤ item.count
some_few item Empty is = omega arith
some_few item (Full some) is = is.1

no_chest : (sort : Sort) (chest : Option (List Pile)) → chest ≡ None → in_chest sort chest ≡ 0
no_chest sort chest e = ap (in_chest sort) e

pub stored_keeps : (sort : Sort) (pack : PackValue) (item : Item)
    → in_pack sort (stored pack item).pack + held sort (stored pack item).floor
    ≡ in_pack sort pack + held sort (Full item)
unfolding stored
stored_keeps sort pack item =
    let keeps = run_keeps sort (sent Floor PickedUp)
    (record { pack = pack; chest = None; floor = Full item }) in
    let none = no_chest sort
    (run (sent Floor PickedUp) (record { pack = pack; chest = None; floor = Full item })).chest
    (none_left (run (sent Floor PickedUp)
    (record { pack = pack; chest = None; floor = Full item })).chest
    (shown_run (sent Floor PickedUp)
    (record { pack = pack; chest = None; floor = Full item }))) in
    omega (arith, keeps, none)

-- the pile that is left is so many of the item
pub left_is : (pack : PackValue) (item : Item) (pile : Pile) (n : ℕ)
    → pile ≡ (stored pack item).floor → IsPile pile → n ≡ count_of pile
    → (stored pack item).floor ≡ pile_of item n
left_is pack item pile n floor is many =
    let P : Pile → Type 0 = λ left. IsSomeOf item left in
    let some : IsSomeOf item pile = subst P (sym floor) (stored_some pack item) in
    sym floor ∙ some_is item pile some is ∙ ap (pile_of item) (sym many)

pub left_few : (pack : PackValue) (item : Item) (pile : Pile) (n : ℕ)
    → pile ≡ (stored pack item).floor → n ≡ count_of pile → n ≤ item.count
left_few pack item pile n floor many =
    let P : Pile → Type 0 = λ left. IsSomeOf item left in
    omega (arith, some_few item pile (subst P (sym floor) (stored_some pack item)))
