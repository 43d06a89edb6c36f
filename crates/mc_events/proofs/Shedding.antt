-- Which columns are ready after a tick.
use Rattle.std.proofs.Common.{◌≡◌, true, List, map, sym, subst}
use Rattle.std.specs.FinSet as set
use Rattle.mc_land.specs.Places.{place_cmp}
use Rattle.mc_land.specs.Shed.{View, shed_land}
use Rattle.mc_model.specs.Game.{players_of}
use Rattle.mc_play.specs.Kept.{GameValue, land_of}
use Rattle.mc_showing.specs.Around.{reach_of}
use Rattle.mc_showing.proofs.ShedFacts.{shed_keeps, shed_only}
use Rattle.mc_events.specs.ReadyColumns.{Sheds}

-- those that no view has are given up
pub sheds_given : (old mid new : GameValue) (views : List View) →
    mid.aside.ready ≡ old.aside.ready → land_of new ≡ shed_land (land_of mid) views →
    new.game ≡ mid.game → views ≡ map (reach_of mid.game) (players_of mid.game) → Sheds old new
sheds_given old mid new views ready shed game given = record {
  only = λ place there. shed_only mid new views shed game given place there;
  keeps = λ place near there needed. shed_keeps mid new views shed game given old
      (λ other r. record {
        near = r.near;
        ready = subst (λ (s : set.FinSet place_cmp). set.contains s other ≡ true) (sym ready)
            r.ready;
      }) place near there needed;
}

-- the same were
pub sheds_same : (old mid new : GameValue) → mid.aside.ready ≡ old.aside.ready →
    Sheds mid new → Sheds old new
sheds_same old mid new same sheds = record {
  only = sheds.only;
  keeps = λ place near there needed. sheds.keeps place near
      (subst (λ (s : set.FinSet place_cmp). set.contains s place ≡ true) (sym same) there)
      needed;
}
