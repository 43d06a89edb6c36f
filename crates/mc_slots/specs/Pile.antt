-- Items as the world holds them, and piles of them (rules of this project).
use Rattle.std.specs.Prelude.{◌≡◌, ℕ, zero, suc, ◌+◌, ◌-◌, ◌≤◌, ◌≤ℤ◌, Bool, ◌&&◌, None, min}
use Rattle.std.specs.Prelude.{if◌then◌else◌}
use Rattle.std.specs.Ordering.{int_eq}
use lib.IntN.{ℤ, pos}
use Rattle.mc_slots.specs.declared.slot.Slot.{Slot}
use Rattle.mc_slots.specs.declared.slot.Slot.TheVariants as slots
use Rattle.mc_slots.specs.declared.pile.TheConstants.{PILE_MAX}
use Rattle.mc_slots.specs.declared.pile.Item.{Item}
use Rattle.mc_slots.specs.declared.pile.Pile.{Pile}
use Rattle.mc_slots.specs.declared.pile.Pile.TheVariants.{Empty, Full}

-- how many of one item a pile holds at most
abbrev pub most : ℕ
most = PILE_MAX

-- an item that the world holds
pub record IsItem (item : Item) : Type 0 where
  pub id : (pos 1 ≤ℤ item.id) × (item.id ≤ℤ pos 255)
  pub damage : (pos 0 ≤ℤ item.damage) × (item.damage ≤ℤ pos 15)
  pub count : (1 ≤ item.count) × (item.count ≤ most)

abbrev pub IsPile : Pile → Type 0
IsPile Empty = Unit {0}
IsPile (Full item) = IsItem item

-- ---- how many

abbrev pub count_of : Pile → ℕ
count_of Empty = 0
count_of (Full item) = item.count

-- what an item is, apart from how many there are
pub record Sort : Type 0 where
  pub id : ℤ
  pub damage : ℤ

abbrev pub is_sort : Sort → Item → Bool
is_sort sort item = int_eq sort.id item.id && int_eq sort.damage item.damage

-- how many of a sort a pile holds
abbrev pub held : Sort → Pile → ℕ
held sort Empty = 0
held sort (Full item) = if is_sort sort item then item.count else 0

-- ---- parts of piles

-- so many of an item, which are an empty pile where they are none
abbrev pub pile_of : Item → ℕ → Pile
pile_of item zero = Empty
pile_of item (suc n) = Full (record item { count = suc n })

-- so many of what a pile holds
abbrev pub part : Pile → ℕ → Pile
part Empty n = Empty
part (Full item) n = pile_of item n

-- a pile without so many of what it holds
abbrev pub without : Pile → ℕ → Pile
without pile n = part pile (count_of pile - n)

-- ---- merging

-- equal in id and damage
pub record IsAlike (a b : Item) : Type 0 where
  pub id : a.id ≡ b.id
  pub damage : a.damage ≡ b.damage

abbrev pub Joins : Item → Pile → Type 0
Joins item Empty = Unit {0}
Joins item (Full other) = IsAlike item other

-- how many of a pile come onto an item: as many as bring it to the most
abbrev pub moved : Item → Pile → ℕ
moved into from = min (count_of from) (most - into.count)

-- an item, so many more
abbrev pub with_more : Item → ℕ → Item
with_more item n = record item { count = item.count + n }

-- ---- on the wire

-- the slot that shows a pile: its id, count and damage, and no tag
abbrev pub slot_of : Pile → Slot
slot_of Empty = slots.Empty
slot_of (Full item) = slots.Full (record {
  id = item.id;
  count = pos item.count;
  damage = item.damage;
  tag = None;
})
