-- What is looked up in a land that is kept as columns.
use Rattle.std.proofs.Common.{◌≡◌, ℕ, zero, suc, ◌<◌, true, false, cond, List, [], ◌∷◌, length, map}
use Rattle.std.proofs.Common.{get_or, Some, None, refl, sym, ap, ◌∙◌, arith}
use Rattle.std.proofs.lemmas.Bool.Decides.{nat_tests}
use Rattle.std.specs.declared.cmp.Ordering.{Ordering}
use Rattle.std.specs.declared.cmp.Ordering.TheVariants.{Equal}
use Rattle.std.specs.Ordering.{is_eq, eq_by_cmp}
use Rattle.std.specs.Option.{option_map}
use Rattle.std.specs.Map.{lookup}
use Rattle.std.specs.FinMap.{find}
use Rattle.mc_land.specs.Places.{Place, place_cmp}
use Rattle.mc_land.specs.KeptLand.{placed, IsIndexed}
use Rattle.mc_land.specs.Ready.{ReadyValue}
use Rattle.mc_land.specs.Kept.{IsApart}
use Rattle.std.specs.Cmp.{tied_itself, eq_by_cmp_equiv}
use Rattle.mc_land.proofs.Orders.{places_total, exact_places}

-- a tree's look-up is the first entry of the key
pub lookup_is : {K X : Type 0} (R : K → K → Ordering) (q : K) (es : List (K × X)) →
    lookup (λ k. is_eq (R q k)) es ≡ find R q es
lookup_is R q es = grind (arith, nat_tests)

-- what is looked at in the column that is found
pub find_map : {X Y : Type 0} (f : X → Y) (q : Place) (es : List (Place × X)) →
    find place_cmp q (map (λ e. (e.0, f e.1)) es) ≡ option_map f (find place_cmp q es)
find_map f q [] = refl
find_map f q (e ∷ es) = grind (arith, nat_tests, find_map f q es)

-- columns stay apart, whatever is looked at in them
pub apart : {X Y : Type 0} (f : X → Y) (es : List (Place × X)) → IsApart es →
    IsApart (map (λ e. (e.0, f e.1)) es)
apart f [] is = tt
apart f (e ∷ es) is = (find_map f e.0 es ∙ ap (option_map f) is.0, apart f es is.1)

-- ---- where columns stand

abbrev entry : ReadyValue → Place × ReadyValue
entry ready = (ready.place, ready)

is_equal : (o : Ordering) → is_eq o ≡ true → o ≡ Equal
is_equal o e = grind (arith, nat_tests)

-- the first column of a place
found_first : (q : Place) (columns : List ReadyValue) (i : ℕ) (d : ReadyValue) →
    i < length columns → (get_or columns i d).place ≡ q →
    ((j : ℕ) → j < i → (get_or columns j d).place ≡ q → ⊥) → find place_cmp q (placed columns) ≡
    Some (get_or columns i d)
found_first q [] i d lt e first = absurd (omega arith)
found_first q (x ∷ xs) zero d lt e first = let h : eq_by_cmp place_cmp q x.place ≡ true =
    rw (sym e) (ap is_eq (tied_itself places_total x.place)) in rw h refl
found_first q (x ∷ xs) (suc i) d lt e first =
    elim (eq_by_cmp place_cmp q x.place) as (λ b. eq_by_cmp place_cmp q x.place ≡ b →
    cond b (Some x) (find place_cmp q (placed xs)) ≡ Some (get_or xs i d)) [
      | true ↦ λ t.
          absurd (first 0 (omega arith)
          (sym (exact_places q x.place (is_equal (place_cmp q x.place) t))))
      | false ↦ λ t. found_first q xs i d (omega arith) e (λ j lt' e'. first (suc j) (omega arith)
          e')
    ] refl

found_nowhere : (q : Place) (columns : List ReadyValue) (d : ReadyValue) →
    ((j : ℕ) → j < length columns → (get_or columns j d).place ≡ q → ⊥) →
    find place_cmp q (placed columns) ≡ None
found_nowhere q [] d never = refl
found_nowhere q (x ∷ xs) d never =
    elim (eq_by_cmp place_cmp q x.place) as (λ b. eq_by_cmp place_cmp q x.place ≡ b →
    cond b (Some x) (find place_cmp q (placed xs)) ≡ None) [
      | true ↦ λ t.
          absurd (never 0 (omega arith)
          (sym (exact_places q x.place (is_equal (place_cmp q x.place) t))))
      | false ↦ λ t. found_nowhere q xs d (λ j lt' e'. never (suc j) (omega arith) e')
    ] refl

same_index : (a b : ℕ) → Some a ≡ Some b → a ≡ b
same_index a b e = cc

-- what the index says is what is found
pub found_indexed : (q : Place) (columns : List ReadyValue) (index : List (Place × ℕ)) (i : ℕ)
    (d : ReadyValue) → IsIndexed columns index → find place_cmp q index ≡ Some i →
    find place_cmp q (placed columns) ≡ Some (get_or columns i d)
found_indexed q columns index i d is e =
    found_first q columns i d (is.listed q i e) (is.placed_at q i d e) (λ j lt same.
    let there : find place_cmp q index ≡ Some j = ap (λ (p : Place). find place_cmp p index)
    (sym same) ∙ is.indexed j d (omega (arith, is.listed q i e)) in
    absurd (omega (arith, same_index j i (sym there ∙ e))))

pub found_unindexed : (q : Place) (columns : List ReadyValue) (index : List (Place × ℕ)) →
    IsIndexed columns index → find place_cmp q index ≡ None → find place_cmp q (placed columns) ≡
    None
found_unindexed q [] index is e = refl
found_unindexed q (d ∷ ds) index is e =
    found_nowhere q (d ∷ ds) d (λ j lt same.
    let there : find place_cmp q index ≡ Some j = ap (λ (p : Place). find place_cmp p index)
    (sym same) ∙ is.indexed j d lt in
    let none : None ≡ Some j = sym e ∙ there in absurd cc)

-- what a tree's insert says of each key
pub inserted : {X : Type 0} (old new : List (Place × X)) (k key q : Place) (v value : X) →
    lookup (λ y. is_eq (place_cmp q y)) new ≡ cond (is_eq (place_cmp k q)) (Some v)
    (lookup (λ y. is_eq (place_cmp q y)) old) → k ≡ key → v ≡ value → find place_cmp q new ≡
    cond (eq_by_cmp place_cmp q key) (Some value) (find place_cmp q old)
inserted {X} old new k key q v value h e f =
    let turned : eq_by_cmp place_cmp k q ≡ eq_by_cmp place_cmp q key =
    rw e ((eq_by_cmp_equiv places_total).symm key q) in
    sym (lookup_is place_cmp q new) ∙ h ∙ rw (turned, f, lookup_is place_cmp q old) refl
