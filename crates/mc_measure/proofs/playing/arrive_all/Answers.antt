use Rattle.std.proofs.Common.{arith, refl, ◌∙◌}
use Rattle.std.specs.List.{flat_map, range_with_len}
use Rattle.mc_load.specs.Load.{arrival}
use Rattle.mc_measure.proofs.Played.{next_number, played_next, played_none}
use Rattle.mc_measure.proofs.playing.arrive_all.Goals as goal

pub loop-client-init : goal.loop-client-init
loop-client-init g c = record {
  played = λ w st. played_none w _ st;
  age = refl;
  few = omega arith;
}

pub loop-client-preserved : goal.loop-client-preserved
loop-client-preserved g c =
    let h = c.loop-client.invariant in
    let n = c.loop-client.client in
    let few = h.few in
    let more = c.in_ok-total.ensures.few in
    record {
      played = λ w st.
          let a = h.played w st in
          played_next (flat_map arrival (range_with_len 0 n)) (arrival n) _ w _ _ _ _
          (next_number arrival 0 n n (omega arith)) a
          (c.in_ok-total.ensures.played _ a.stands);
      age = c.in_ok-total.ensures.age ∙ h.age;
      few = omega (arith, few, more);
    }
