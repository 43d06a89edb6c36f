use Rattle.std.proofs.Common.{rules, ◌≡◌, sym, subst, ◌∙◌}
use Rattle.std.specs.List.{AllByRecursion}
use Rattle.mc_land.specs.Places.{IsPlace}
use Rattle.mc_view.specs.Sets.{all_of}
use Rattle.mc_sending.proofs.Pieces.{next_holds}
use Rattle.mc_loads.proofs.Places.{view_places}
use Rattle.mc_scenes.proofs.Tried.{IsThere, tried_next, all_ready}
use Rattle.mc_scenes.proofs.flushes.is_ready.Goals as goal

pub loop-place-init : goal.loop-place-init
loop-place-init g c =
    let all : c.into_iter-place-iterator.result ≡ all_of c.args.view.now =
    c.into_iter-place-iterator.ensures.into_iter_gives ∙ c.all-place-items.ensures in
    record {
      near = subst (AllByRecursion IsPlace) (sym all)
          (view_places c.args.view.now c.args.view.now.in_range);
      ready = subst (AllByRecursion (IsThere c.args.land.now)) all;
    }

pub loop-place-preserved : goal.loop-place-preserved
loop-place-preserved g c =
    let next = c.in-Some.ensures.steps in
    let there : IsThere c.args.land.now c.in-Some.place = search rules in
    record {
      near = (next_holds IsPlace c.loop-place.place-iterator c.next.new.self c.in-Some.place next
          c.loop-place.invariant.near).1;
      ready =
          tried_next (IsThere c.args.land.now) (all_of c.args.view.now) c.loop-place.place-iterator
          c.next.new.self c.in-Some.place next there c.loop-place.invariant.ready;
    }

pub returns : goal.returns
returns g c = λ t. all_ready c.args.land.now (all_of c.args.view.now)
    (view_places c.args.view.now c.args.view.now.in_range)
    (c.loop-place.invariant.ready
    (subst (AllByRecursion (IsThere c.args.land.now)) (sym c.in-None.ensures.steps.0) tt))
