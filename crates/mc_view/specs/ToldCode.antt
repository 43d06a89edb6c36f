-- A code of what a client was told, by which proofs tell such values apart.
use Rattle.std.specs.Prelude.{ℕ, refl}
use Rattle.std.specs.Coded.{Coded, code_by, coded×, coded_ℕ, coded_ℤ}
use Rattle.std.specs.FinMap.{code}
use lib.IntN.{ℤ}
use Rattle.mc_fields.specs.declared.position.Spot.{Spot}
use Rattle.mc_slots.specs.PileCode.{coded_pile}
use Rattle.mc_view.specs.Told.{Told}

abbrev pub coded_spot : Coded Spot
coded_spot =
    code_by (ℤ × (ℤ × (ℤ × (ℕ × ℕ))))
    (coded× coded_ℤ (coded× coded_ℤ (coded× coded_ℤ (coded× coded_ℕ coded_ℕ))))
    (λ spot. (spot.x, (spot.y, (spot.z, (spot.yaw, spot.pitch)))))
    (λ s. record { x = s.0; y = s.1.0; z = s.1.1.0; yaw = s.1.1.1.0; pitch = s.1.1.1.1 })
    (λ spot. refl)

abbrev pub coded_told : Coded Told
coded_told = code coded_ℤ (coded× coded_spot coded_pile)
