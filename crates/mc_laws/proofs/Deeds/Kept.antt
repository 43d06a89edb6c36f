-- What each deed keeps, and so several one after another: the game goes onward, it and its chests
-- stay good, and packets can tell it.
use Rattle.std.proofs.Common.{ℕ, ◌+◌, List, [], ◌∷◌, refl, sym, subst, arith}
use Rattle.mc_entities.specs.declared.entity.EntityKind.TheVariants as kinds
use Rattle.mc_model.specs.Things.{in_hand}
use Rattle.mc_model.specs.Game.{Game, pack_of}
use Rattle.mc_model.specs.Good.{AreChests, Good}
use Rattle.mc_model.specs.Fitting.{Told}
use Rattle.mc_laws.proofs.Deeds.Chests.{GoodGame, restocked_chests, same_chests, with_state_chests}
use Rattle.mc_laws.proofs.Deeds.Coming.{spawned_good}
use Rattle.mc_laws.proofs.Deeds.Goods.{rehand_good, repack_good, stand_good}
use Rattle.mc_laws.proofs.Deeds.Keeping.{players_whole}
use Rattle.mc_laws.proofs.Deeds.Made.{AreDeeds, Deed, Made, rehands, repacks, restocks, says, sets}
use Rattle.mc_laws.proofs.Deeds.Made.{stands, throws, touches}
use Rattle.mc_laws.proofs.Deeds.Onwards.{Onward, players_on, rehand_on, repack_on, same_on, so}
use Rattle.mc_laws.proofs.Deeds.Onwards.{stand_on, thrown_on}
use Rattle.mc_laws.proofs.Deeds.Packs.{named_is_pack}
use Rattle.mc_laws.proofs.Fits.Told.{holding_told, spawned_told, standing_told, with_state_told}

module _ (G T H : Type 0) (k : ℕ) where
  deed_on : (g v : Game) → Deed G T H k g v → Onward k g v
  deed_on g v (touches f t fits rest are) = players_on k g v f (λ j p. (t.like j p).name) t.traits
      are rest.settings rest.age (omega (arith, rest.eids))
      (λ old since. rw (rest.eids, rest.entities) since)
  deed_on g v (repacks j p pack there is same) = rw same (repack_on k p pack g)
  deed_on g v (rehands p hand there small same) = rw same (rehand_on k p hand g)
  deed_on g v (stands p spot there fits same) = rw same (stand_on k p spot g)
  deed_on g v (throws item spot can same) = rw same (thrown_on k item spot g)
  deed_on g v (sets cell state inside is same) = rw same (same_on k g _ refl refl refl refl refl)
  deed_on g v (restocks cell piles at are same) = rw same (same_on k g _ refl refl refl refl refl)
  deed_on g v (says line fits same) = rw same (same_on k g _ refl refl refl refl refl)

  pub deeds_on : (g : Game) (us : List Game) (v : Game) → AreDeeds G T H k g us v → Onward k g v
  deeds_on g [] v are = subst (Onward k g) (sym are) (same_on k g g refl refl refl refl refl)
  deeds_on g (u ∷ us) v are = so k g u v (deed_on g u are.0) (deeds_on u us v are.1)

  pub deed_good : (g v : Game) → Deed G T H k g v → G → Good g → Good v
  deed_good g v (touches f t fits rest are) given w = rw (rest.entities, rest.eids, rest.packs)
      (players_whole g.players v.players f are t.like g.entities g.eids g.packs w)
  deed_good g v (repacks j p pack there is same) given w =
      subst Good (sym same) (repack_good j p g there w pack (is given))
  deed_good g v (rehands p hand there small same) given w =
      subst Good (sym same) (rehand_good k p g there w hand small)
  deed_good g v (stands p spot there fits same) given w = rw same (stand_good k p g there w spot)
  deed_good g v (throws item spot can same) given w = rw same (spawned_good _ spot g refl w)
  deed_good g v (sets cell state inside is same) given w = subst Good (sym same) w
  deed_good g v (restocks cell piles there are same) given w = subst Good (sym same) w
  deed_good g v (says line fits same) given w = subst Good (sym same) w

  deed_chests : (g v : Game) → Deed G T H k g v → G → AreChests g → AreChests v
  deed_chests g v (touches f t fits rest are) given a =
      same_chests rest.settings rest.edits rest.chests a
  deed_chests g v (repacks j p pack there is same) given a = rw same (same_chests refl refl refl a)
  deed_chests g v (rehands p hand there small same) given a = rw same (same_chests refl refl refl a)
  deed_chests g v (stands p spot there fits same) given a = rw same (same_chests refl refl refl a)
  deed_chests g v (throws item spot can same) given a = rw same (same_chests refl refl refl a)
  deed_chests g v (sets cell state inside is same) given a =
      subst AreChests (sym same) (with_state_chests cell state g inside a)
  deed_chests g v (restocks cell piles there are same) given a =
      subst AreChests (sym same) (restocked_chests cell piles g there (are given) a)
  deed_chests g v (says line fits same) given a = rw same (same_chests refl refl refl a)

  -- what each deed of a good game keeps, all of them keep
  pub deeds_keep : (P : Game → Type 0) →
      ((u v : Game) → Deed G T H k u v → Good u → P u → P v) → G → (g : Game) (us : List Game)
      (v : Game) → AreDeeds G T H k g us v → Good g → P g → P v
  deeds_keep P each given g [] v are w holds = subst P (sym are) holds
  deeds_keep P each given g (u ∷ us) v are w holds = deeds_keep P each given u us v are.1
      (deed_good g u are.0 given w) (each g u are.0 w holds)

  -- what is made of a good game is one, with its chests
  pub made_good : (g v : Game) → Made G T H k g v → G → GoodGame g → GoodGame v
  made_good g v made given w = deeds_keep GoodGame (λ u x deed good both.
      (deed_good u x deed given good, deed_chests u x deed given both.1)) given g
      made.games v made.deeds w.0 w

  -- and packets can tell it that can tell the other
  deed_tells : G → T → (g v : Game) → Deed G T H k g v → Good g → Told g → Told v
  deed_tells good told g v (touches f of_players fits rest are) w t =
      rw (rest.edits, rest.entities, rest.eids) t
  deed_tells good told g v (repacks j p pack there is same) w t = subst Told (sym same)
      (holding_told p.eid (in_hand pack p.hand) g.edits g.entities g.eids
      ((is good).are_piles (27 + p.hand)) t)
  deed_tells good told g v (rehands p hand there small same) w t = subst Told (sym same)
      (holding_told p.eid (in_hand (pack_of g p) hand) g.edits g.entities g.eids
      ((named_is_pack g p.name w).are_piles (27 + hand)) t)
  deed_tells good told g v (stands p spot there fits same) w t = subst Told (sym same)
      (standing_told p.eid spot g.edits g.entities g.eids (fits told) t)
  deed_tells good told g v (throws item spot can same) w t = subst Told (sym same)
      (spawned_told (kinds.Dropped item g.age) spot g (can told) t)
  deed_tells good told g v (sets cell state inside is same) w t = subst Told (sym same)
      (with_state_told cell state g (is told) t)
  deed_tells good told g v (restocks cell piles there are same) w t = subst Told (sym same) t
  deed_tells good told g v (says line fits same) w t = subst Told (sym same) t

  pub made_told : (g v : Game) → Made G T H k g v → G → T → Good g → Told g → Told v
  made_told g v made good told w t =
      deeds_keep Told (deed_tells good told) good g made.games v made.deeds w t
