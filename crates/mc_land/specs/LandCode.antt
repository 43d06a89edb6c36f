-- How the value of a land is stored.
use Rattle.std.specs.Prelude.{◌≡◌, ℕ, List, Option, Some, None, refl}
use Rattle.std.specs.Coded.{Coded, code_by, coded×, coded_ℕ, coded_ℤ, coded_list, coded_option}
use Rattle.std.specs.FinMap as map
use Rattle.std.specs.FinSet as set
use Rattle.mc_slots.specs.declared.pile.Pile.{Pile}
use Rattle.mc_slots.specs.PileCode.{coded_pile}
use Rattle.mc_land.specs.declared.terrain.Terrain.{Terrain}
use Rattle.mc_land.specs.declared.terrain.Terrain.TheVariants.{Flat, Hills, Isle}
use Rattle.mc_land.specs.Places.{Place, Key, place_cmp, key_cmp}
use Rattle.mc_land.specs.Land.{LandValue}

abbrev pub terrain_stored : Terrain → Option (Option ℕ)
terrain_stored Flat = None
terrain_stored Isle = Some None
terrain_stored (Hills seed) = Some (Some seed)

abbrev pub terrain_back : Option (Option ℕ) → Terrain
terrain_back None = Flat
terrain_back (Some None) = Isle
terrain_back (Some (Some seed)) = Hills seed

abbrev pub terrain_again : (terrain : Terrain) → terrain_back (terrain_stored terrain) ≡ terrain
terrain_again Flat = refl
terrain_again Isle = refl
terrain_again (Hills seed) = refl

abbrev pub coded_terrain : Coded Terrain
coded_terrain = code_by (Option (Option ℕ)) (coded_option (coded_option coded_ℕ)) terrain_stored
    terrain_back terrain_again

abbrev pub coded_place : Coded Place
coded_place = coded× coded_ℤ coded_ℤ

abbrev pub coded_key : Coded Key
coded_key = coded× coded_place coded_ℕ

abbrev pub Stored : Type 0
Stored = Terrain × (map.FinMap key_cmp ℕ × (map.FinMap key_cmp ℕ × (map.FinMap key_cmp (List Pile) ×
    set.FinSet place_cmp)))

abbrev pub coded_stored : Coded Stored
coded_stored =
    coded× coded_terrain (coded× (map.code coded_key coded_ℕ) (coded× (map.code coded_key coded_ℕ)
    (coded× (map.code coded_key (coded_list coded_pile)) (set.code coded_place))))

abbrev pub coded_land : Coded LandValue
coded_land =
    code_by Stored coded_stored (λ land. (
      land.terrain,
      (land.edits, (land.settled, (land.chests, land.ready))),
    ))
    (λ parts. record {
      terrain = parts.0;
      edits = parts.1.0;
      settled = parts.1.1.0;
      chests = parts.1.1.1.0;
      ready = parts.1.1.1.1;
    })
    (λ land. refl)
