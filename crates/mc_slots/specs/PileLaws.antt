-- Piles are merged and split without an item lost or made.
use Rattle.std.specs.Prelude.{◌≡◌, ℕ, zero, suc, ◌+◌, ◌-◌, ◌≤◌, Bool, true, false, refl}
use Rattle.std.specs.Prelude.{if◌then◌else◌}
use Rattle.std.proofs.Common.{ap, arith}
use Rattle.mc_slots.specs.declared.pile.Item.{Item}
use Rattle.mc_slots.specs.declared.pile.Pile.{Pile}
use Rattle.mc_slots.specs.declared.pile.Pile.TheVariants.{Empty, Full}
use Rattle.mc_slots.specs.Pile.{IsPile, count_of, Sort, is_sort, held, pile_of, part, without}
use Rattle.mc_slots.specs.Pile.{Joins, with_more}

pub count_of-pile_of : (item : Item) (n : ℕ) → count_of (pile_of item n) ≡ n
count_of-pile_of item zero = refl
count_of-pile_of item (suc n) = refl

held-pile_of : (sort : Sort) (item : Item) (n : ℕ) → held sort (pile_of item n) ≡
    (if is_sort sort item then n else 0)
held-pile_of sort item zero = none (is_sort sort item)
  where
    none : (b : Bool) → ◌≡◌ {A = ℕ} 0 (if b then 0 else 0)
    none true = refl
    none false = refl
held-pile_of sort item (suc n) = refl

-- what counts for one sort is the same in sum, where the counts are
counted : (b : Bool) (x y u v : ℕ) → x + y ≡ u + v → (if b then x else 0) + (if b then y else 0) ≡
    (if b then u else 0) + (if b then v else 0)
counted true x y u v e = e
counted false x y u v e = refl

counted-one : (b : Bool) (x y u : ℕ) → x + y ≡ u → (if b then x else 0) + (if b then y else 0) ≡
    (if b then u else 0)
counted-one true x y u e = e
counted-one false x y u e = refl

-- the two parts of a pile hold what it held
pub split_keeps : (sort : Sort) (pile : Pile) (n : ℕ) → n ≤ count_of pile →
    held sort (part pile n) + held sort (without pile n) ≡ held sort pile
split_keeps sort Empty n le = refl
split_keeps sort (Full item) n le =
    rw (held-pile_of sort item n, held-pile_of sort item (item.count - n))
    (counted-one (is_sort sort item) n (item.count - n) item.count (omega arith))

-- an item that grew and the rest of the pile hold what they held
pub merge_keeps : (sort : Sort) (into : Item) (from : Pile) (n : ℕ) → Joins into from →
    n ≤ count_of from
    → held sort (Full (with_more into n)) + held sort (without from n) ≡ held sort (Full into) +
    held sort from
merge_keeps sort into Empty n joins le =
    let same : into.count + n ≡ into.count = omega arith in
    ap (λ (t : ℕ). (if is_sort sort into then t else 0) + 0) same
merge_keeps sort into (Full other) n joins le =
    let same : is_sort sort other ≡ is_sort sort into = rw (joins.id, joins.damage) refl in
    rw (held-pile_of sort other (other.count - n), same) (counted (is_sort sort into) (into.count +
    n) (other.count - n) into.count other.count (omega arith))

-- a part of a pile is a pile
pub part_is_pile : (pile : Pile) (n : ℕ) → n ≤ count_of pile → IsPile pile → IsPile (part pile n)
part_is_pile Empty n le is = tt
part_is_pile (Full item) zero le is = tt
part_is_pile (Full item) (suc n) le is = record {
  id = is.id;
  damage = is.damage;
  count = (omega arith, omega (arith, is.count.1));
}
