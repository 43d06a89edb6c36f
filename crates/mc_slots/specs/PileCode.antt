-- How a pile is stored in the values of what holds some.
use Rattle.std.specs.Prelude.{◌≡◌, ℕ, Option, Some, None, refl}
use Rattle.std.specs.Coded.{Coded, code_by, coded×, coded_ℕ, coded_ℤ, coded_option}
use lib.IntN.{ℤ}
use Rattle.mc_slots.specs.declared.pile.Pile.{Pile}
use Rattle.mc_slots.specs.declared.pile.Pile.TheVariants.{Empty, Full}

abbrev pub pile_stored : Pile → Option (ℤ × (ℤ × ℕ))
pile_stored Empty = None
pile_stored (Full item) = Some (item.id, (item.damage, item.count))

abbrev pub pile_back : Option (ℤ × (ℤ × ℕ)) → Pile
pile_back None = Empty
pile_back (Some parts) = Full (record { id = parts.0; damage = parts.1.0; count = parts.1.1 })

abbrev pub pile_again : (pile : Pile) → pile_back (pile_stored pile) ≡ pile
pile_again Empty = refl
pile_again (Full item) = refl

abbrev pub coded_pile : Coded Pile
coded_pile = code_by (Option (ℤ × (ℤ × ℕ))) (coded_option (coded× coded_ℤ (coded× coded_ℤ coded_ℕ)))
    pile_stored pile_back pile_again
