-- A column that was made ready is ready.
use Rattle.std.proofs.Common.{◌≡◌, true, refl, ◌∙◌}
use Rattle.std.specs.Cmp.{tied_itself}
use Rattle.std.specs.FinSet as set
use Rattle.mc_land.specs.Places.{Place, place_cmp}
use Rattle.mc_land.proofs.Orders.{places_total}

pub is_ready : (ready : set.FinSet place_cmp) (place : Place) →
    set.contains (set.insert ready place) place ≡ true
is_ready ready place =
    set.contains-insert places_total ready place place ∙ rw (tied_itself places_total place) refl
