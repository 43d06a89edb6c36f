-- Spots, kinds, piles and rows are equal where a comparison of their parts says so.
use Rattle.std.proofs.Common.{◌≡◌, Bool, true, cond, ◌&&◌, List, [], ◌++◌, Some, ap, refl, ◌∙◌}
use Rattle.std.proofs.Common.{arith}
use Rattle.std.proofs.lemmas.Bool.Decides.{nat_tests}
use Rattle.std.proofs.lemmas.Int.{ints}
use lib.IntN.{ℤ}
use Rattle.mc_view.specs.Forms.{moves_of}
use Rattle.mc_view.proofs.SpotFacts.{spot_decides}
use Rattle.mc_model.specs.Delta.{entity_packets, is_same_slot, moves_packets, pile_packets}
use Rattle.mc_model.specs.Delta.{pile_told}
use Rattle.mc_packets.specs.declared.down.Down.{Down}
use Rattle.std.specs.Prelude.{nat_eq}
use Rattle.std.specs.Ordering.{int_eq}
use Rattle.std.specs.Cmp.{unsigned_Decides}
use Rattle.std.proofs.lemmas.Bool.Decides.{Decides-int_eq}
use Rattle.mc_fields.specs.declared.position.Spot.{Spot}
use Rattle.mc_slots.specs.declared.pile.Item.{Item}
use Rattle.mc_slots.specs.declared.pile.Pile.{Pile}
use Rattle.mc_slots.specs.declared.pile.Pile.TheVariants as piles
use Rattle.mc_slots.specs.Pile.{slot_of}
use Rattle.mc_model.specs.declared.seen.SeenKind.{SeenKind}
use Rattle.mc_model.specs.declared.seen.SeenKind.TheVariants.{Player, Dropped, Mob}
use Rattle.mc_model.proofs.FitsText.{both_true}
use Rattle.mc_told.specs.declared.row.Row.{Row}
use Rattle.mc_told.specs.EntityFrames.{is_same_kind, is_same_pile, is_same_row, is_same_spot}
use Rattle.mc_told.specs.Telling.{told_as}

-- number by number
pub same_spot : (a b : Spot) → is_same_spot a b ≡ true → a ≡ b
same_spot a b e = (spot_decides a b).0 e

same_kind : (a b : SeenKind) → is_same_kind a b ≡ true → a ≡ b
same_kind (Player a) (Player b) e = ap Player ((unsigned_Decides a b).0 e)
same_kind (Player a) Dropped e = absurd cc
same_kind (Player a) Mob e = absurd cc
same_kind Dropped (Player b) e = absurd cc
same_kind Dropped Dropped e = refl
same_kind Dropped Mob e = absurd cc
same_kind Mob (Player b) e = absurd cc
same_kind Mob Dropped e = absurd cc
same_kind Mob Mob e = refl

same_item : (a b : Item) →
    (int_eq a.id b.id && (int_eq a.damage b.damage && nat_eq a.count b.count)) ≡ true → a ≡ b
same_item a b e =
    let id = both_true (int_eq a.id b.id) _ e in
    let rest = both_true (int_eq a.damage b.damage) (nat_eq a.count b.count) id.1 in
    let same_id : a.id ≡ b.id = (Decides-int_eq a.id b.id).0 id.0 in
    let same_damage : a.damage ≡ b.damage = (Decides-int_eq a.damage b.damage).0 rest.0 in
    let same_count : a.count ≡ b.count = (unsigned_Decides a.count b.count).0 rest.1 in
    λ i. record { id = same_id i; damage = same_damage i; count = same_count i }

same_pile : (a b : Pile) → is_same_pile a b ≡ true → a ≡ b
same_pile piles.Empty piles.Empty e = refl
same_pile piles.Empty (piles.Full b) e = absurd cc
same_pile (piles.Full a) piles.Empty e = absurd cc
same_pile (piles.Full a) (piles.Full b) e = ap piles.Full (same_item a b e)

-- part by part
pub same_row : (a b : Row) → is_same_row a b ≡ true → a ≡ b
same_row a b e =
    let eid = both_true (int_eq a.eid b.eid) _ e in
    let kind = both_true (is_same_kind a.kind b.kind) _ eid.1 in
    let rest = both_true (is_same_spot a.spot b.spot) (is_same_pile a.pile b.pile) kind.1 in
    let same_eid : a.eid ≡ b.eid = (Decides-int_eq a.eid b.eid).0 eid.0 in
    λ i. record {
      eid = same_eid i;
      kind = same_kind a.kind b.kind kind.0 i;
      spot = same_spot a.spot b.spot rest.0 i;
      pile = same_pile a.pile b.pile rest.1 i;
    }

-- ---- an entity that stands still

still_moves : (eid : ℤ) (spot : Spot) → moves_packets eid spot (moves_of spot spot) ≡ []
still_moves eid spot = grind (arith, nat_tests, ints)

-- nothing is told of one that is where it was and looks as it did
pub unmoved : (eid : ℤ) (from to : Spot) → is_same_spot from to ≡ true →
    moves_packets eid to (moves_of from to) ≡ []
unmoved eid from to same =
    ap (λ (spot : Spot). moves_packets eid to (moves_of spot to)) (same_spot from to same)
    ∙ still_moves eid to

-- ---- an entity of which nothing changed

own_slot : (pile : Pile) → is_same_slot (slot_of pile) (slot_of pile) ≡ true
own_slot piles.Empty = refl
own_slot (piles.Full item) = grind (arith, nat_tests, ints)

-- nothing is told of one that is as it was told
pub unchanged : (eid : ℤ) (kind : SeenKind) (was : Spot × Pile) →
    entity_packets eid (Some (told_as kind was)) (told_as kind was) ≡ []
unchanged eid kind was =
    ap (λ (moves : List Down). moves ++ pile_packets eid kind (slot_of was.1) (slot_of was.1))
    (still_moves eid was.0)
    ∙ ap (λ (same : Bool). cond same [] (pile_told eid kind (slot_of was.1))) (own_slot was.1)
