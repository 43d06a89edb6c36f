-- No player loses or makes an item by what it does: its deeds take away as many as they leave.
use Rattle.std.proofs.Common.{◌≡◌, ℕ, ◌≤◌, List, [], ◌∷◌, Some, sym, subst, ap, arith}
use Rattle.mc_up.specs.declared.play_up.PlayUp.{PlayUp}
use Rattle.mc_model.specs.Balance.{in_entities, sort_of}
use Rattle.mc_model.specs.Game.{Game}
use Rattle.mc_model.specs.Acts.{act}
use Rattle.mc_model.specs.Good.{Good}
use Rattle.mc_laws.proofs.Weighing.Spending.{Weighs, rehand_weighs, repack_weighs, restocked_weighs}
use Rattle.mc_laws.proofs.Weighing.Spending.{same_weighs, stand_weighs, state_weighs, still_weighs}
use Rattle.mc_laws.proofs.Weighing.Spending.{thrown_weighs, weighs_even, weighs_on}
use Rattle.mc_laws.proofs.Deeds.Chests.{GoodGame}
use Rattle.mc_laws.proofs.Deeds.Kept.{deed_good}
use Rattle.mc_laws.proofs.Deeds.Made.{AreDeeds, Deed, Made, all_gained, all_spent, gained, rehands}
use Rattle.mc_laws.proofs.Deeds.Made.{repacks, restocks, says, sets, spent, stands, throws, touches}
use Rattle.mc_laws.proofs.Acts.ActMade.{act_made}

module _ (G T H : Type 0) (id damage k : ℕ) where
  deed_weighs : (g v : Game) (deed : Deed G T H k g v) → Good g →
      Weighs id damage (spent G T H k id damage g v deed) (gained G T H k id damage g v deed) g v
  deed_weighs g v (touches f of_players fits rest are) w = same_weighs id damage g v
      rest.settings rest.edits rest.chests rest.packs
      (ap (in_entities (sort_of id damage)) rest.entities)
  deed_weighs g v (repacks j p pack there is same) w =
      subst (Weighs id damage _ _ g) (sym same) (repack_weighs id damage j p pack g w there)
  deed_weighs g v (rehands p hand there small same) w = rw same (rehand_weighs id damage k p hand g)
  deed_weighs g v (stands p spot there fits same) w = rw same (stand_weighs id damage p spot g)
  deed_weighs g v (throws item spot can same) w = rw same (thrown_weighs id damage item spot g)
  deed_weighs g v (sets cell state inside is same) w =
      subst (Weighs id damage _ _ g) (sym same) (state_weighs id damage cell state g inside)
  deed_weighs g v (restocks cell piles there are same) w = subst (Weighs id damage _ _ g)
      (sym same) (restocked_weighs id damage cell piles g there)
  deed_weighs g v (says line fits same) w = (let x = still_weighs id damage g in
      subst (Weighs id damage 0 0 g) (sym same)
      (record { count = x.count; names = x.names; settings = x.settings }))

  deeds_weigh : (g : Game) (us : List Game) (v : Game) (are : AreDeeds G T H k g us v) → G →
      Good g → Weighs id damage (all_spent G T H k id damage g us v are)
      (all_gained G T H k id damage g us v are) g v
  deeds_weigh g [] v are given w = rw are (still_weighs id damage g)
  deeds_weigh g (u ∷ us) v are given w = weighs_on id damage _ _ _ _ g u v
      (deed_weighs g u are.0 w)
      (deeds_weigh u us v are.1 given (deed_good G T H k g u are.0 given w))

  -- so what is made of a good game weighs as much
  pub made_weighs : (g v : Game) → Made G T H k g v → G → 1 ≤ id → damage ≤ 15 → Good g →
      Weighs id damage 0 0 g v
  made_weighs g v made given some low w = let even = made.even given id damage some low in
      weighs_even id damage _ _ g v (omega (arith, even))
      (deeds_weigh g made.games v made.deeds given w)

pub act_even : (id damage : ℕ) → 1 ≤ id → damage ≤ 15 → (k : ℕ) (packet : PlayUp) (g v : Game) →
    GoodGame g → act g k packet ≡ Some v → Weighs id damage 0 0 g v
act_even id damage some low k packet g v w e =
    made_weighs _ _ _ id damage k g v (act_made k packet g v e).made w some low w.0
