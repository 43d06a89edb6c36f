use Rattle.std.proofs.Common.{List}
use Rattle.std.specs.List.{flat_map, range_with_len}
use Rattle.mc_model.specs.Step.{Event}
use Rattle.mc_load.specs.Load.{arrival, load_round}
use Rattle.mc_measure.specs.Settling.{settled_world}
use Rattle.mc_measure.proofs.Played.{played_two}
use Rattle.mc_measure.proofs.playing.play_load.Goals as goal

pub returns : goal.returns
returns g c = record {
  played = λ w st.
      let come : List Event = flat_map arrival (range_with_len 0 c.args.clients) in
      let go : List Event =
      flat_map (load_round c.args.clients) (range_with_len 1 c.args.ticks) in
      let a = c.in_ok-arrived.ensures.played w st in
      let b = c.in_ok-played.ensures.played (settled_world w come) a.stands in
      played_two come go w _ _ _ _ a b;
}
