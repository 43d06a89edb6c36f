-- Where the player of a client is: as the entity of its number, and no entity has a negative one.
use Rattle.std.proofs.Common.{◌≡◌, List, [], ◌∷◌, Option, Some, None, refl, sym, ap, arith}
use Rattle.std.proofs.Common.{ℤ, pos, negsuc, ◌≤ℤ◌}
use Rattle.std.specs.Prelude.{option_map, unwrap_or}
use Rattle.std.proofs.lemmas.Bool.Decides.{nat_tests}
use Rattle.std.proofs.lemmas.Int.{ints}
use Rattle.mc_land.specs.Land.{LandValue}
use Rattle.mc_entities.specs.declared.entity.Entity.{Entity}
use Rattle.mc_entities.specs.Folk.{eid_of}
use Rattle.mc_entities.specs.Numbers.{Rise, numbered}
use Rattle.mc_model.specs.Spots.{spawn_spot}
use Rattle.mc_flush.specs.Seeing.{spot_seen}

-- none has a number that is not above the lowest
numbered_below : (n low high : ℤ) (es : List Entity) → Rise eid_of low es high → n ≤ℤ low →
    numbered eid_of n es ≡ None
numbered_below n low high [] r le = refl
numbered_below n low high (e ∷ es) r le =
    grind (arith, nat_tests, numbered_below n e.eid high es r.1)

-- the spot of the one that was found
pub spot_found : (land : LandValue) (es : List Entity) (me high : ℤ) (e : Entity) →
    Rise eid_of (pos 0) es high → numbered eid_of me es ≡ Some e → e.spot ≡ spot_seen land es me
spot_found land es (pos eid) high e rise found =
    sym (ap (λ (o : Option Entity). unwrap_or (option_map (λ (x : Entity). x.spot) o)
    (spawn_spot land.terrain)) found)
spot_found land es (negsuc n) high e rise found =
    let none : numbered eid_of (negsuc n) es ≡ None =
    numbered_below (negsuc n) (pos 0) high es rise (omega (arith, ints)) in absurd cc
