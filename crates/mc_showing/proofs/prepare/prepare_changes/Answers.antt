use Rattle.std.proofs.Common.{◌≡◌, [], refl, rules, sym, subst, ap, ◌∙◌, arith}
use Rattle.std.specs.List.{AllByRecursion}
use Rattle.mc_land.specs.Places.{IsPlace}
use Rattle.mc_sending.proofs.Pieces.{next_holds}
use Rattle.mc_showing.specs.Ahead.{with_stayed_changes}
use Rattle.mc_showing.proofs.LookFacts.{changes_done, changes_next, looks_next, looks_within}
use Rattle.mc_showing.proofs.LookFacts.{stayed_cost}
use Rattle.mc_showing.proofs.TouchedLooks.{changes_touched, looks_touched}
use Rattle.mc_showing.proofs.prepare.prepare_changes.Goals as goal

pub loop-place-init : goal.loop-place-init
loop-place-init g c = record {
  near = subst (AllByRecursion IsPlace)
      (sym c.into_iter-place-iterator.ensures.into_iter_gives.0)
      c.touched-place-items.ensures.inside;
  frames = λ list are. are;
  changed = refl;
  bounded = search rules;
}

pub prepare_change-requires : goal.prepare_change-requires
prepare_change-requires g c =
    (next_holds IsPlace c.loop-place.place-iterator c.next.new.self c.in-Some.place.now
    c.in-Some.ensures.steps c.loop-place.invariant.near).0

pub loop-place-preserved : goal.loop-place-preserved
loop-place-preserved g c =
    let h = c.loop-place.invariant in
    let land = c.args.land.now in
    let was = c.args.mark.now.view in
    let view = c.args.view.now in
    let next = c.in-Some.ensures.steps in
    record {
      near = (next_holds IsPlace c.loop-place.place-iterator c.next.new.self c.in-Some.place.now
          next h.near).1;
      frames = λ list are. c.prepare_change.ensures.frames list (h.frames list are);
      changed = changes_next land was view c.loop-place.encoded c.prepare_change.new.encoded _
          c.in-Some.place.now c.loop-place.place-iterator c.next.new.self next h.changed
          c.in_ok-prepare_change.ensures.changed;
      bounded = looks_next land was view c.loop-place.steps c.prepare_change.new.steps _
          c.in-Some.place.now c.loop-place.place-iterator c.next.new.self next h.bounded
          c.prepare_change.ensures.bounded;
    }

pub returns-clause-changed : goal.returns-clause-changed
returns-clause-changed g c =
    let land = c.args.land.now in
    let was = c.args.mark.now.view in
    let view = c.args.view.now in
    let none : c.loop-place.place-iterator ≡ [] = search rules in
    changes_done land was view c.loop-place.encoded
    (with_stayed_changes land was view c.args.encoded.now c.into_iter-place-iterator.result)
    c.loop-place.place-iterator none c.loop-place.invariant.changed
    ∙ ap (with_stayed_changes land was view c.args.encoded.now)
    c.into_iter-place-iterator.ensures.into_iter_gives.0
    ∙ sym (changes_touched land c.touched-place-items.result.now.keys
    c.touched-place-items.ensures was view c.args.encoded.now)

pub returns-clause-bounded : goal.returns-clause-bounded
returns-clause-bounded g c =
    let land = c.args.land.now in
    let was = c.args.mark.now.view in
    let view = c.args.view.now in
    let cost = ap (stayed_cost land was view)
    c.into_iter-place-iterator.ensures.into_iter_gives.0 in
    let all = looks_touched land c.touched-place-items.result.now.keys
    c.touched-place-items.ensures was view in
    omega (arith, c.loop-place.invariant.bounded, cost, all)

pub returns-in_err-prepare_change-clause-frames : goal.returns-in_err-prepare_change-clause-frames
returns-in_err-prepare_change-clause-frames g c = λ list are.
    c.prepare_change.ensures.frames list (c.loop-place.invariant.frames list are)

pub returns-in_err-prepare_change-clause-bounded : goal.returns-in_err-prepare_change-clause-bounded
returns-in_err-prepare_change-clause-bounded g c =
    let land = c.args.land.now in
    let was = c.args.mark.now.view in
    let view = c.args.view.now in
    let cost = ap (stayed_cost land was view)
    c.into_iter-place-iterator.ensures.into_iter_gives.0 in
    let all = looks_touched land c.touched-place-items.result.now.keys
    c.touched-place-items.ensures was view in
    let within = looks_within land was view c.loop-place.steps c.prepare_change.new.steps _
    c.in-Some.place.now c.loop-place.place-iterator c.next.new.self c.in-Some.ensures.steps
    c.loop-place.invariant.bounded c.prepare_change.ensures.bounded in
    omega (arith, within, cost, all)
