-- How a row of an entity is stored in the values of what holds some.
use Rattle.std.specs.Prelude.{◌≡◌, ℕ, Option, Some, None, refl}
use Rattle.std.specs.Coded.{Coded, code_by, coded×, coded_ℕ, coded_ℤ, coded_option}
use lib.IntN.{ℤ}
use Rattle.mc_fields.specs.declared.position.Spot.{Spot}
use Rattle.mc_slots.specs.declared.pile.Pile.{Pile}
use Rattle.mc_slots.specs.PileCode.{coded_pile}
use Rattle.mc_view.specs.ToldCode.{coded_spot}
use Rattle.mc_model.specs.declared.seen.SeenKind.{SeenKind}
use Rattle.mc_model.specs.declared.seen.SeenKind.TheVariants.{Player, Dropped, Mob}
use Rattle.mc_told.specs.declared.row.Row.{Row}

abbrev pub kind_stored : SeenKind → Option (Option ℕ)
kind_stored (Player uuid) = Some (Some uuid)
kind_stored Dropped = Some None
kind_stored Mob = None

abbrev pub kind_back : Option (Option ℕ) → SeenKind
kind_back (Some (Some uuid)) = Player uuid
kind_back (Some None) = Dropped
kind_back None = Mob

abbrev pub kind_again : (kind : SeenKind) → kind_back (kind_stored kind) ≡ kind
kind_again (Player uuid) = refl
kind_again Dropped = refl
kind_again Mob = refl

abbrev pub coded_kind : Coded SeenKind
coded_kind = code_by (Option (Option ℕ)) (coded_option (coded_option coded_ℕ))
    kind_stored kind_back kind_again

abbrev pub coded_row : Coded Row
coded_row =
    code_by (ℤ × (SeenKind × (Spot × Pile)))
    (coded× coded_ℤ (coded× coded_kind (coded× coded_spot coded_pile)))
    (λ row. (row.eid, (row.kind, (row.spot, row.pile))))
    (λ parts. record {
      eid = parts.0;
      kind = parts.1.0;
      spot = parts.1.1.0;
      pile = parts.1.1.1;
    })
    (λ row. refl)
