use Rattle.std.proofs.Common.{◌≡◌, [], ◌∷◌, map, arith, refl, rules, ◌∙◌}
use Rattle.std.specs.List.{range_with_len}
use Rattle.mc_load.specs.Load.{client_turn}
use Rattle.mc_measure.proofs.Played.{next_one, played_as, played_none}
use Rattle.mc_measure.proofs.playing.turn_all.Goals as goal

pub loop-client-init : goal.loop-client-init
loop-client-init g c = record {
  played = λ w st. played_none w _ st;
  age = refl;
  few = omega arith;
}

pub loop-client-preserved : goal.loop-client-preserved
loop-client-preserved g c =
    let h = c.loop-client.invariant in
    let n = c.loop-client.client in
    let tick = c.args.tick in
    let is : c.from.result ≡ c.in_ok-turn.field-0 = search rules in
    let few = h.few in
    record {
      played = λ w st.
          let a = h.played w st in
          played_as (map (client_turn tick) (range_with_len 0 n)) (client_turn tick n ∷ []) _ w _ _
          _ _ _ (next_one (client_turn tick) n) is a (c.in_ok-turn.ensures.played _ a.stands);
      age = c.in_ok-turn.ensures.age ∙ h.age;
      few = omega (arith, few, is);
    }
