-- A move of piles loses and makes no item, whichever it is.
use Rattle.std.proofs.Common.{◌≡◌, ℕ, ◌+◌, ◌-◌, Bool, true, false, min, refl, arith}
use Rattle.std.proofs.Common.{if◌then◌else◌}
use Rattle.std.proofs.lemmas.Bool.Decides.{nat_tests}
use Rattle.mc_slots.specs.declared.pile.Item.{Item}
use Rattle.mc_slots.specs.declared.pile.Pile.{Pile}
use Rattle.mc_slots.specs.declared.pile.Pile.TheVariants.{Empty, Full}
use Rattle.mc_slots.specs.Pile.{IsAlike, Sort, count_of, held, is_sort, most, part}
use Rattle.mc_slots.specs.Pile.{without}
use Rattle.mc_slots.specs.PileLaws.{merge_keeps, split_keeps}
use Rattle.mc_windows.specs.declared.moves.How.{How}
use Rattle.mc_windows.specs.declared.moves.How.TheVariants.{Put, Merge, Swap}
use Rattle.mc_windows.specs.Moves.{effect, poured, sort_of}

-- items of one sort have the same id and damage
pub alike : (a b : Item) → is_sort (sort_of a) b ≡ true → IsAlike b a
alike a b one = grind (arith, nat_tests)

put_keeps : (sort : Sort) (n : ℕ) (from : Pile)
    → held sort (without from (min n (count_of from))) + held sort
    (part from (min n (count_of from))) ≡ held sort from + 0
put_keeps sort n from = omega (arith, split_keeps sort from (min n (count_of from)) (omega arith))

pour_keeps : (sort : Sort) (n : ℕ) (from onto : Item) → is_sort (sort_of from) onto ≡ true
    → held sort (poured n from onto).0 + held sort (poured n from onto).1
    ≡ held sort (Full from) + held sort (Full onto)
pour_keeps sort n from onto one =
    omega (
      arith,
      merge_keeps sort onto (Full from) (min (min n (most - onto.count)) from.count)
          (alike from onto one) (omega arith),
    )

merged_keeps : (sort : Sort) (n : ℕ) (from onto : Item) (one : Bool)
    → (one ≡ true → is_sort (sort_of from) onto ≡ true)
    → held sort (if one then poured n from onto else (Full from, Full onto)).0 + held sort
    (if one then poured n from onto else (Full from, Full onto)).1
    ≡ held sort (Full from) + held sort (Full onto)
merged_keeps sort n from onto true is = pour_keeps sort n from onto (is refl)
merged_keeps sort n from onto false is = refl

pub effect_keeps : (sort : Sort) (how : How) (from to : Pile)
    → held sort (effect how from to).0 + held sort (effect how from to).1
    ≡ held sort from + held sort to
effect_keeps sort (Put n) from Empty = put_keeps sort n from
effect_keeps sort (Put n) from (Full onto) = refl
effect_keeps sort (Merge n) Empty to = refl
effect_keeps sort (Merge n) (Full from) Empty = refl
effect_keeps sort (Merge n) (Full from) (Full onto) = merged_keeps sort n from onto
    (is_sort (sort_of from) onto) (λ e. e)
effect_keeps sort Swap from to = omega arith
