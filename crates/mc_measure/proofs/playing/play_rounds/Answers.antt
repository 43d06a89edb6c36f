use Rattle.std.proofs.Common.{◌+◌, arith}
use Rattle.std.specs.List.{flat_map, range_with_len}
use Rattle.mc_load.specs.Load.{load_round}
use Rattle.mc_measure.proofs.Played.{next_number, played_next, played_none}
use Rattle.mc_measure.proofs.playing.play_rounds.Goals as goal

pub loop-done-init : goal.loop-done-init
loop-done-init g c = record {
  played = λ w st. played_none w _ st;
  age = omega arith;
  few = omega arith;
}

pub loop-done-preserved : goal.loop-done-preserved
loop-done-preserved g c =
    let h = c.loop-done.invariant in
    let n = c.loop-done.done in
    let each = load_round c.args.clients in
    let few = h.few in
    let more = c.in_ok-total.ensures.few in
    let age = h.age in
    let older = c.in_ok-total.ensures.age in
    record {
      played = λ w st.
          let a = h.played w st in
          played_next (flat_map each (range_with_len 1 n)) (each (n + 1)) _ w _ _ _ _
          (next_number each 1 n (n + 1) (omega arith)) a
          (c.in_ok-total.ensures.played _ a.stands);
      age = omega (arith, age, older);
      few = omega (arith, few, more);
    }
