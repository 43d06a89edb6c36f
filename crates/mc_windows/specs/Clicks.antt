-- Clicks in a window: the six tests and the table of rows, of the page 'Protocol' of wiki.vg for
-- protocol 47, section Click Window, as far as this project has them. Each row is a list of moves
-- between places.
use Rattle.std.specs.Prelude.{ℕ, zero, suc, ◌+◌, ◌-◌, ◌/◌, ◌==◌, Bool, true, false, not, ◌&&◌, ◌||◌}
use Rattle.std.specs.Prelude.{nat_lt, List, [], ◌∷◌, ◌++◌, Option, Some, None, is_some, is_none}
use Rattle.std.specs.Prelude.{Result, Ok, Err, if◌then◌else◌}
use Rattle.std.specs.Ordering.{int_eq}
use lib.IntN.{ℤ, pos, negsuc}
use Rattle.mc_slots.specs.declared.slot.Slot.{Slot}
use Rattle.mc_slots.specs.declared.slot.Slot.TheVariants as slots
use Rattle.mc_slots.specs.declared.pile.Pile.{Pile}
use Rattle.mc_slots.specs.declared.pile.Pile.TheVariants.{Empty, Full}
use Rattle.mc_slots.specs.Pile.{count_of, is_sort, most}
use Rattle.mc_windows.specs.declared.request.Click.{Click}
use Rattle.mc_windows.specs.declared.request.Why.{Why}
use Rattle.mc_windows.specs.declared.request.Why.TheVariants.{WrongWindow, Waiting, NoSlot, NoMode}
use Rattle.mc_windows.specs.declared.request.Why.TheVariants.{OtherItem, NoRoomToDrop}
use Rattle.mc_windows.specs.declared.clicking.Clicked.{Clicked}
use Rattle.mc_windows.specs.declared.clicking.Clicked.TheVariants.{Done, Refused}
use Rattle.mc_windows.specs.declared.place.Place.{Place}
use Rattle.mc_windows.specs.declared.place.Place.TheVariants.{Cursor, Floor, Chested, Packed}
use Rattle.mc_windows.specs.declared.row.Target.{Target}
use Rattle.mc_windows.specs.declared.row.Target.TheVariants.{Outside, On}
use Rattle.mc_windows.specs.declared.row.Row.{Row}
use Rattle.mc_windows.specs.declared.row.Row.TheVariants.{Left, Right, Shift, Number, DropOne}
use Rattle.mc_windows.specs.declared.row.Row.TheVariants.{DropAll, ThrowAll, ThrowOne, Nothing}
use Rattle.mc_windows.specs.declared.order.Order.{Order}
use Rattle.mc_windows.specs.declared.order.Order.TheVariants.{ToPlayer, ToChest, ToHotbar, ToMain}
use Rattle.mc_windows.specs.declared.order.Order.TheVariants.{PickedUp}
use Rattle.mc_windows.specs.declared.moves.How.{How}
use Rattle.mc_windows.specs.declared.moves.How.TheVariants.{Put, Merge, Swap}
use Rattle.mc_windows.specs.declared.moves.Move.{Move}
use Rattle.mc_windows.specs.declared.desk.Desk.{Desk}
use Rattle.mc_slots.specs.Chest.{chest_size}
use Rattle.mc_windows.specs.declared.pack.TheConstants.{MAIN_PILES}
use Rattle.mc_windows.specs.Pack.{PackValue, pack_size}
use Rattle.mc_windows.specs.Moves.{at, move, run, sort_of}

-- ---- where a click goes

abbrev pub is_within : ℕ → ℕ → ℕ → Bool
is_within low high n = nat_lt n (high + 1) && not (nat_lt n low)

-- the player's own window has the slots 9 to 44 of its pack; a chest's has 0 to 26 of the chest and
-- 27 to 62 of the pack
abbrev pub place_of : Bool → ℤ → Option Place
place_of has_chest (negsuc n) = None
place_of false (pos n) = if is_within 9 44 n then Some (Packed (n - 9)) else None
place_of true (pos n) = if is_within 0 26 n then Some (Chested n)
    else (if is_within 27 62 n then Some (Packed (n - 27)) else None)

abbrev pub on : Option Place → Option Target
on None = None
on (Some place) = Some (On place)

-- the slot -999 is outside the window
abbrev pub target_of : Bool → ℤ → Option Target
target_of has_chest slot = if int_eq slot (negsuc 998) then Some Outside
    else on (place_of has_chest slot)

-- ---- the table of rows

abbrev pub is : ℕ → ℤ → Bool
is n value = int_eq value (pos n)

-- the number of a key from 0 to 8
abbrev pub key_of : ℤ → Option ℕ
key_of (pos n) = if nat_lt n 9 then Some n else None
key_of (negsuc n) = None

abbrev pub number_row : Place → Option ℕ → Option Row
number_row place None = None
number_row place (Some key) = Some (Number key place)

abbrev pub row_of : Target → ℤ → ℤ → Option Row
row_of Outside mode button =
    if is 0 mode && is 0 button then Some ThrowAll
    else (if is 0 mode && is 1 button then Some ThrowOne
    else (if is 4 mode && (is 0 button || is 1 button) then Some Nothing
    else None))
row_of (On place) mode button =
    if is 0 mode && is 0 button then Some (Left place)
    else (if is 0 mode && is 1 button then Some (Right place)
    else (if is 1 mode && (is 0 button || is 1 button) then Some (Shift place)
    else (if is 2 mode then number_row place (key_of button)
    else (if is 4 mode && is 0 button then Some (DropOne place)
    else (if is 4 mode && is 1 button then Some (DropAll place)
    else None)))))

-- ---- where a pile goes by itself

-- how many places an order has, and the one with k before it
abbrev pub places : Order → ℕ
places ToPlayer = pack_size
places ToChest = chest_size
places ToHotbar = 9
places ToMain = MAIN_PILES
places PickedUp = pack_size

abbrev pub picked_up : ℕ → ℕ
picked_up k = if nat_lt k 9 then MAIN_PILES + k else k - 9

abbrev pub place_in : Order → ℕ → Place
place_in ToPlayer k = Packed (35 - k)
place_in ToChest k = Chested k
place_in ToHotbar k = Packed (MAIN_PILES + k)
place_in ToMain k = Packed k
place_in PickedUp k = Packed (picked_up k)

-- the same move to each of the first n places of an order
unfoldable pub to_each : How → Place → Order → ℕ → List Move
to_each how from order zero = []
to_each how from order (suc n) = to_each how from order n ++ move how from (place_in order n) ∷ []

-- stacks of the same item first, and then the first place with nothing
abbrev pub sent : Place → Order → List Move
sent from order = to_each (Merge most) from order (places order) ++ to_each (Put most) from order
    (places order)

-- with a chest, piles go from it to the player and from the player to it; else from the main part
-- to the hotbar and back
abbrev pub order_from : Bool → Place → Order
order_from true (Chested i) = ToPlayer
order_from true place = ToChest
order_from false (Packed i) = if nat_lt i MAIN_PILES then ToHotbar else ToMain
order_from false place = ToMain

-- ---- the moves of a row

abbrev pub is_empty : Pile → Bool
is_empty Empty = true
is_empty (Full item) = false

abbrev pub are_alike : Pile → Pile → Bool
are_alike (Full a) (Full b) = is_sort (sort_of a) b
are_alike a b = false

-- the larger half of a pile is taken up, one is put down, or each goes to the other's place
abbrev pub right : Place → Pile → Pile → Move
right place Empty pile = move (Put ((count_of pile + 1) / 2)) place Cursor
right place cursor Empty = move (Put 1) Cursor place
right place (Full a) (Full b) = if is_sort (sort_of a) b then move (Merge 1) Cursor place
    else move Swap Cursor place

-- so many at most are dropped, where nothing hangs on the cursor
abbrev pub fallen : Desk → Place → ℕ → List Move
fallen desk place n = if is_empty (at desk Cursor) then move (Put n) place Floor ∷ [] else []

abbrev pub plan : Desk → Row → List Move
plan desk (Left place) = (if are_alike (at desk Cursor) (at desk place)
    then move (Merge most) Cursor place else move Swap Cursor place) ∷ []
plan desk (Right place) = right place (at desk Cursor) (at desk place) ∷ []
plan desk (Shift place) = sent place (order_from (is_some desk.chest) place)
plan desk (Number key place) = move Swap place (Packed (MAIN_PILES + key)) ∷ []
plan desk (DropOne place) = fallen desk place 1
plan desk (DropAll place) = fallen desk place most
plan desk ThrowAll = move (Put most) Cursor Floor ∷ []
plan desk ThrowOne = move (Put 1) Cursor Floor ∷ []
plan desk Nothing = []

-- ---- the six tests, in their order

abbrev pub refuse : {A : Type 0} → Bool → Why → Result A Why → Result A Why
refuse fails why rest = if fails then Err why else rest

abbrev pub unless_some : {A B : Type 0} → Option A → Why → (A → Result B Why) → Result B Why
unless_some None why rest = Err why
unless_some (Some a) why rest = rest a

-- a wire slot shows the pile
abbrev pub shows : Slot → Pile → Bool
shows slots.Empty Empty = true
shows (slots.Full stack) (Full item) =
    int_eq stack.id item.id &&
    (int_eq stack.count (pos item.count) &&
    (int_eq stack.damage item.damage && is_none stack.tag))
shows slot pile = false

abbrev pub is_no_item : Slot → Bool
is_no_item slots.Empty = true
is_no_item (slots.Full stack) = false

-- the client saw another item in the slot
abbrev pub is_other : Desk → Row → Slot → Bool
is_other desk (Left place) item = not (shows item (at desk place))
is_other desk (Right place) item = not (shows item (at desk place))
is_other desk (Shift place) item = not (shows item (at desk place)) && not (is_no_item item)
is_other desk row item = false

-- the first five tests, and the row where none fails
unfoldable pub admitted : Desk → Click → Result Row Why
admitted desk click =
    refuse (not (click.window == desk.pack.window)) WrongWindow (
    refuse (is_some desk.pack.waiting) Waiting (
    unless_some (target_of (is_some desk.chest) click.slot) NoSlot (λ target.
    unless_some (row_of target click.mode click.button) NoMode (λ row.
    refuse (is_other desk row click.item) OtherItem (Ok row)))))

-- the sixth: what the moves drop needs room
abbrev pub worked : Desk → Bool → Result Row Why → Result Desk Why
worked desk room (Err why) = Err why
worked desk room (Ok row) =
    let end = run (plan desk row) desk in
    refuse (not room && not (is_empty end.floor)) NoRoomToDrop (Ok end)

abbrev pub desk_of : PackValue → Option (List Pile) → Desk
desk_of pack chest = record { pack = pack; chest = chest; floor = Empty }

-- what comes of a click: the desk after it, or the first test that failed
abbrev pub outcome : PackValue → Option (List Pile) → Click → Bool → Result Desk Why
outcome pack chest click room = worked (desk_of pack chest) room
    (admitted (desk_of pack chest) click)

-- ---- what is left

-- a refusal changes nothing but the wait; a click in another window not even that
abbrev pub refused_pack : PackValue → ℤ → Why → PackValue
refused_pack pack number WrongWindow = pack
refused_pack pack number why = record pack { waiting = Some number }

abbrev pub pack_after : PackValue → ℤ → Result Desk Why → PackValue
pack_after pack number (Ok end) = end.pack
pack_after pack number (Err why) = refused_pack pack number why

abbrev pub chest_after : Option (List Pile) → Result Desk Why → Option (List Pile)
chest_after chest (Ok end) = end.chest
chest_after chest (Err why) = chest

-- what is to be dropped, or why not
abbrev pub answer_of : Result Desk Why → Clicked
answer_of (Ok end) = Done end.floor
answer_of (Err why) = Refused why

abbrev pub dropped : Clicked → Pile
dropped (Done pile) = pile
dropped (Refused why) = Empty
