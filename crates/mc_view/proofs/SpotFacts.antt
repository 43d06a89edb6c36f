-- Spots are one where a comparison of their parts says so, and else not.
use Rattle.std.proofs.Common.{◌≡◌, ◌&&◌, ap}
use Rattle.std.specs.Prelude.{nat_eq}
use Rattle.std.specs.Bool.{Decides}
use Rattle.std.specs.Ordering.{int_eq}
use Rattle.std.proofs.lemmas.Bool.Decides.{Decides-and, Decides-eqb, Decides-int_eq, Decides-like}
use Rattle.mc_fields.specs.declared.position.Spot.{Spot}

pub spot_decides : (a b : Spot) → Decides (int_eq a.x b.x && (int_eq a.y b.y && (int_eq a.z b.z
    && (nat_eq a.yaw b.yaw && nat_eq a.pitch b.pitch)))) (a ≡ b)
spot_decides a b = Decides-like _
    (λ same i. record {
      x = same.0 i;
      y = same.1.0 i;
      z = same.1.1.0 i;
      yaw = same.1.1.1.0 i;
      pitch = same.1.1.1.1 i;
    })
    (λ e. (
      ap (λ (spot : Spot). spot.x) e,
      (
        ap (λ (spot : Spot). spot.y) e,
        (
          ap (λ (spot : Spot). spot.z) e,
          (ap (λ (spot : Spot). spot.yaw) e, ap (λ (spot : Spot). spot.pitch) e),
        ),
      ),
    ))
    (Decides-and (int_eq a.x b.x) _ (Decides-int_eq a.x b.x)
    (Decides-and (int_eq a.y b.y) _ (Decides-int_eq a.y b.y)
    (Decides-and (int_eq a.z b.z) _ (Decides-int_eq a.z b.z)
    (Decides-and (nat_eq a.yaw b.yaw) (nat_eq a.pitch b.pitch) (Decides-eqb a.yaw b.yaw)
    (Decides-eqb a.pitch b.pitch)))))
