-- What moves of piles between the places of a desk do (rules of this project). A desk is a pack,
-- the chest that it shows, and what lies outside the window.
use Rattle.std.specs.Prelude.{ℕ, ◌+◌, ◌-◌, ◌==◌, Bool, true, false, not, ◌&&◌}
use Rattle.std.specs.Prelude.{nat_lt, min, List, [], ◌∷◌, slice_set, length}
use Rattle.std.specs.Prelude.{option_map, if◌then◌else◌}
use Rattle.std.specs.Option.{unwrap_or}
use Rattle.mc_slots.specs.declared.pile.Item.{Item}
use Rattle.mc_slots.specs.declared.pile.Pile.{Pile}
use Rattle.mc_slots.specs.declared.pile.Pile.TheVariants.{Empty, Full}
use Rattle.mc_slots.specs.Pile.{Sort, count_of, held, is_sort, most, part, with_more, without}
use Rattle.mc_slots.specs.Chest.{pile_at}
use Rattle.mc_windows.specs.declared.place.Place.{Place}
use Rattle.mc_windows.specs.declared.place.Place.TheVariants.{Cursor, Floor, Chested, Packed}
use Rattle.mc_windows.specs.declared.moves.How.{How}
use Rattle.mc_windows.specs.declared.moves.How.TheVariants.{Put, Merge, Swap}
use Rattle.mc_windows.specs.declared.moves.Move.{Move}
use Rattle.mc_windows.specs.declared.desk.Desk.{Desk}
use Rattle.mc_windows.specs.Stock.{in_pack, in_chest}

-- ---- two piles: what is left of the first, and what becomes of the second

abbrev pub sort_of : Item → Sort
sort_of item = record { id = item.id; damage = item.damage }

-- so many at most of an item, onto another that has room for them
abbrev pub poured : ℕ → Item → Item → Pile × Pile
poured n from onto =
    let count = min (min n (most - onto.count)) from.count in
    (without (Full from) count, Full (with_more onto count))

-- so many at most go onto nothing; so many at most go onto the same sort, up to 64; each goes to
-- the other's place
abbrev pub effect : How → Pile → Pile → Pile × Pile
effect (Put n) from Empty = (
  without from (min n (count_of from)),
  part from
      (min n (count_of from)),
)
effect (Merge n) (Full from) (Full onto) = if is_sort (sort_of from) onto then poured n from onto
    else (Full from, Full onto)
effect Swap from to = (to, from)
effect how from to = (from, to)

-- ---- the places of a desk

abbrev pub same_place : Place → Place → Bool
same_place Cursor Cursor = true
same_place Floor Floor = true
same_place (Chested i) (Chested j) = i == j
same_place (Packed i) (Packed j) = i == j
same_place here there = false

-- a desk has the place
abbrev pub is_here : Desk → Place → Bool
is_here desk Cursor = true
is_here desk Floor = true
is_here desk (Chested i) = nat_lt i (length (unwrap_or desk.chest []))
is_here desk (Packed i) = nat_lt i (length desk.pack.slots)

-- the pile at a place; none at a place that the desk has not
abbrev pub at : Desk → Place → Pile
at desk Cursor = desk.pack.cursor
at desk Floor = desk.floor
at desk (Chested i) = pile_at (unwrap_or desk.chest []) i
at desk (Packed i) = pile_at desk.pack.slots i

-- the desk with a pile at a place
abbrev pub write : Desk → Place → Pile → Desk
write desk Cursor pile = record desk { pack = record desk.pack { cursor = pile } }
write desk Floor pile = record desk { floor = pile }
write desk (Chested i) pile = record desk {
  chest =
      option_map (λ piles. slice_set piles i pile) desk.chest;
}
write desk (Packed i) pile =
    record desk { pack = record desk.pack { slots = slice_set desk.pack.slots i pile } }

-- ---- moves

abbrev pub move : How → Place → Place → Move
move how from to = record { how = how; from = from; to = to }

-- between two places that the desk has
abbrev pub is_possible : Desk → Place → Place → Bool
is_possible desk from to = is_here desk from && (is_here desk to && not (same_place from to))

abbrev pub exchanged : Move → Desk → Desk
exchanged step desk =
    let piles = effect step.how (at desk step.from) (at desk step.to) in
    write (write desk step.from piles.0) step.to piles.1

-- else nothing moves
unfoldable pub made : Move → Desk → Desk
made step desk = if is_possible desk step.from step.to then exchanged step desk else desk

-- one move after the other
unfoldable pub run : List Move → Desk → Desk
run [] desk = desk
run (step ∷ steps) desk = run steps (made step desk)

-- how many items of a sort are on a desk
abbrev pub stock : Sort → Desk → ℕ
stock sort desk = in_pack sort desk.pack + (in_chest sort desk.chest + held sort desk.floor)
