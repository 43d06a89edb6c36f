-- Items that lie at a spot one after another: each is a deed of its own, where there is room for
-- all of them.
use Rattle.std.proofs.Common.{◌≡◌, ℕ, suc, ◌+◌, ◌≤◌, List, [], ◌∷◌, Option, Some, None, refl, arith}
use Rattle.std.specs.Prelude.{length, unwrap_or}
use Rattle.std.specs.List.{AllByRecursion, filter_map, sum_by}
use Rattle.std.proofs.lemmas.List.Sums.{sum_by-cons}
use lib.IntN.{pos}
use Rattle.mc_fields.specs.declared.position.Spot.{Spot}
use Rattle.mc_slots.specs.declared.pile.Item.{Item}
use Rattle.mc_slots.specs.declared.pile.Pile.{Pile}
use Rattle.mc_slots.specs.declared.pile.Pile.TheVariants.{Empty, Full}
use Rattle.mc_slots.specs.Chest.{IsChest, pile_at}
use Rattle.mc_slots.specs.Pile.{IsItem, IsPile, Sort, held}
use Rattle.mc_windows.specs.Stock.{in_chest, in_piles}
use Rattle.mc_entities.specs.declared.entity.EntityKind.TheVariants as kinds
use Rattle.mc_entities.specs.Folk.{dropped_in}
use Rattle.mc_model.specs.Balance.{sort_of}
use Rattle.mc_model.specs.Deeds.{thrown}
use Rattle.mc_model.specs.Digging.{all_thrown, item_of}
use Rattle.mc_model.specs.Fitting.{SpotFits}
use Rattle.mc_model.specs.Game.{Game}
use Rattle.mc_laws.proofs.Deeds.Made.{Made, MadeWith, first, throws}
use Rattle.mc_laws.proofs.Fits.Told.{dropped_come}

-- how many of a sort there are
abbrev pub in_items : Sort → List Item → ℕ
in_items sort items = sum_by (λ (item : Item). held sort (Full item)) items

-- ---- the items in piles

piles_held : (sort : Sort) (piles : List Pile) →
    in_items sort (filter_map item_of piles) ≡ in_piles sort piles
piles_held sort [] = refl
piles_held sort (Empty ∷ piles) =
    omega (arith, piles_held sort piles, sum_by-cons (held sort) Empty piles)
piles_held sort (Full item ∷ piles) = omega (
  arith,
  piles_held sort piles,
  sum_by-cons (held sort) (Full item) piles,
  sum_by-cons (λ (x : Item). held sort (Full x)) item (filter_map item_of piles),
)

piles_are : (piles : List Pile) → ((i : ℕ) → IsPile (pile_at piles i)) →
    AllByRecursion IsItem (filter_map item_of piles)
piles_are [] are = tt
piles_are (Empty ∷ piles) are = piles_are piles (λ i. are (suc i))
piles_are (Full item ∷ piles) are = (are 0, piles_are piles (λ i. are (suc i)))

-- ---- those in a chest that may be there

pub chest_held : (sort : Sort) (o : Option (List Pile)) →
    in_items sort (filter_map item_of (unwrap_or o [])) ≡ in_chest sort o
chest_held sort None = refl
chest_held sort (Some piles) = piles_held sort piles

pub chest_are : (o : Option (List Pile)) → ((piles : List Pile) → o ≡ Some piles → IsChest piles) →
    AllByRecursion IsItem (filter_map item_of (unwrap_or o []))
chest_are None are = tt
chest_are (Some piles) are = piles_are piles (are piles refl).are_piles

-- ---- deeds

module _ (G T H : Type 0) (k : ℕ) where
  -- items fall one after another, and more is done
  pub all_thrown_before : (items : List Item) (spot : Spot) (g v : Game) →
      (T → AllByRecursion IsItem items) → (T → SpotFits spot) →
      dropped_in g.entities + length items ≤ 4096 → g.eids + length items ≤ 2147483647 →
      Made G T H k (all_thrown items spot g) v →
      MadeWith G T H k (λ (sort : Sort). in_items sort items) g v
  all_thrown_before [] spot g v are at lying given later = later
  all_thrown_before (item ∷ items) spot g v are at lying given later =
      let come = dropped_come g.entities (record {
        eid = pos (g.eids + 1);
        kind = kinds.Dropped item g.age;
        spot = spot;
      }) in
      first G T H k (λ (sort : Sort). in_items sort (item ∷ items))
      (λ (sort : Sort). in_items sort items) g (thrown item spot g) _
      (throws item spot (λ t. record {
        kind_is = (are t).0;
        named = tt;
        place = at t;
        room = omega (arith, lying);
        given = omega (arith, given);
      }) refl)
      (λ w id damage some low. let one = sum_by-cons
      (λ (x : Item). held (sort_of id damage) (Full x)) item items in omega (arith, one))
      (all_thrown_before items spot (thrown item spot g) v (λ t. (are t).1) at
      (omega (arith, lying, come)) (omega (arith, given)) later)
