-- The orders of columns and of cells are total, and tell all apart.
use Rattle.std.specs.Ordering.{nat_cmp, int_cmp}
use Rattle.std.specs.Cmp.{IsTotalOrder}
use Rattle.std.specs.FinMap.{IsAntisymmetric}
use Rattle.std.proofs.lemmas.Cmp.{then_total, on_total, int_cmp_total, nat_cmp_total}
use Rattle.std.proofs.lemmas.Map.Lookups.{exact_pairs, exact_signed, exact_unsigned}
use Rattle.mc_land.specs.Places.{Place, Key, place_cmp, key_cmp}

pub places_total : IsTotalOrder place_cmp
places_total = then_total (on_total (λ (p : Place). p.0) int_cmp_total)
    (on_total (λ (p : Place). p.1) int_cmp_total)

pub keys_total : IsTotalOrder key_cmp
keys_total = then_total (on_total (λ (k : Key). k.0) places_total) (on_total (λ (k : Key). k.1)
    nat_cmp_total)

pub exact_places : IsAntisymmetric place_cmp
exact_places = exact_pairs int_cmp int_cmp exact_signed exact_signed

pub exact_keys : IsAntisymmetric key_cmp
exact_keys = exact_pairs place_cmp nat_cmp exact_places exact_unsigned
