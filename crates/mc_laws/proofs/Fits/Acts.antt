-- What players do, and that they come, keeps a game such that packets can tell it.
use Rattle.std.proofs.Common.{◌≡◌, ℕ, ◌<◌, List, Some, arith}
use Rattle.mc_up.specs.declared.play_up.PlayUp.{PlayUp}
use Rattle.mc_entities.specs.declared.entity.EntityKind.TheVariants as kinds
use Rattle.mc_model.specs.Names.{offline_uuid}
use Rattle.mc_model.specs.Things.{in_hand}
use Rattle.mc_model.specs.Spots.{spawn_spot}
use Rattle.mc_model.specs.Game.{Game, pack_named}
use Rattle.mc_model.specs.Deeds.{enter_as}
use Rattle.mc_model.specs.Acts.{act}
use Rattle.mc_model.specs.Good.{Good}
use Rattle.mc_model.specs.Fitting.{Told}
use Rattle.mc_laws.proofs.FitsUuid.{offline_small}
use Rattle.mc_laws.proofs.ThingsFit.{spawn_fits}
use Rattle.mc_laws.proofs.Deeds.Chests.{GoodGame}
use Rattle.mc_laws.proofs.Deeds.Kept.{made_told}
use Rattle.mc_laws.proofs.Deeds.Packs.{named_is_pack}
use Rattle.mc_laws.proofs.Fits.Told.{spawned_told}
use Rattle.mc_laws.proofs.Acts.ActMade.{act_made}

pub act_tells : (k : ℕ) (packet : PlayUp) (g v : Game) → act g k packet ≡ Some v → GoodGame g →
    Told g → Told v
act_tells k packet g v e w t =
    made_told _ _ _ k g v (act_made k packet g v e).made w (w, t) w.0 t

-- ---- coming

pub enter_tells : (k : ℕ) (name : List ℕ) (g : Game) → g.eids < 2147483647 →
    Good g → Told g → Told (enter_as k name g)
enter_tells k name g given w t =
    let lying = t.lying in
    spawned_told (kinds.Player (offline_uuid name) (in_hand (pack_named g name) 0))
    (spawn_spot g.settings.terrain) g (record {
      kind_is = (named_is_pack g name w).are_piles 27;
      named = offline_small name;
      place = spawn_fits g.settings.terrain;
      room = omega (arith, lying);
      given = given;
    }) t
