use Rattle.std.proofs.Common.{◌≡◌, ◌*◌, List, [], length, refl, rules, subst, ap, ◌∙◌, arith}
use Rattle.std.specs.List.{AllByRecursion}
use Rattle.mc_column.specs.Sizes.{cells}
use Rattle.mc_land.specs.Places.{IsPlace, Place}
use Rattle.mc_loads.specs.Columns.{IsReady}
use Rattle.mc_play.specs.Kept.{land_of}
use Rattle.mc_sending.proofs.Pieces.{next_holds}
use Rattle.mc_showing.specs.Ahead.{with_loads}
use Rattle.mc_showing.specs.Looking.{cells_of}
use Rattle.mc_showing.proofs.LookFacts.{columns_next, columns_within, load_since, loads_done}
use Rattle.mc_showing.proofs.LookFacts.{loads_next}
use Rattle.mc_showing.proofs.ReadyFacts.{prepares_itself, prepares_onward, readying_done}
use Rattle.mc_showing.proofs.ReadyFacts.{readying_next}
use Rattle.mc_showing.proofs.prepare.prepare_columns.Goals as goal

pub loop-place-init : goal.loop-place-init
loop-place-init g c = record {
  near = search rules;
  ready = λ other more all. all;
  same = prepares_itself c.args.game.now c.args.game.now refl;
  frames = λ list are. are;
  loaded = refl;
  bounded = search rules;
}

pub prepare_place-requires : goal.prepare_place-requires
prepare_place-requires g c =
    (next_holds IsPlace c.loop-place.place-iterator c.next.new.self c.in-Some.place
    c.in-Some.ensures.steps c.loop-place.invariant.near).0

pub loop-place-preserved : goal.loop-place-preserved
loop-place-preserved g c =
    let i = c.loop-place.invariant in
    let next = c.in-Some.ensures.steps in
    let step = c.prepare_place.ensures in
    record {
      near = (next_holds IsPlace c.loop-place.place-iterator c.next.new.self c.in-Some.place next
          i.near).1;
      ready = readying_next c.loop-place.game c.prepare_place.new.game c.in-Some.place
          c.loop-place.place-iterator c.next.new.self _ next step.same
          c.in_ok-prepare_place.ensures.ready i.ready;
      same = prepares_onward c.args.game.now c.loop-place.game c.prepare_place.new.game i.same
          step.same;
      frames = λ list are. step.frames list (i.frames list are);
      loaded = loads_next (cells_of c.args.game.now.settled c.args.game.now.game)
          c.loop-place.encoded c.prepare_place.new.encoded _ c.in-Some.place
          c.loop-place.place-iterator c.next.new.self next i.loaded
          (load_since c.args.game.now c.loop-place.game c.loop-place.encoded
          c.prepare_place.new.encoded c.in-Some.place i.same
          c.in_ok-prepare_place.ensures.loaded);
      bounded = columns_next c.loop-place.steps c.prepare_place.new.steps _ c.in-Some.place
          c.loop-place.place-iterator c.next.new.self next i.bounded step.bounded;
    }

pub returns-clause-ready : goal.returns-clause-ready
returns-clause-ready g c =
    let none : c.loop-place.place-iterator ≡ [] = search rules in
    let same : c.into_iter-place-iterator.result ≡ c.args.columns = search rules in
    subst (AllByRecursion (IsReady (land_of c.loop-place.game))) same
    (readying_done c.loop-place.game c.loop-place.place-iterator c.into_iter-place-iterator.result
    none c.loop-place.invariant.ready)

pub returns-clause-loaded : goal.returns-clause-loaded
returns-clause-loaded g c =
    let land = cells_of c.args.game.now.settled c.args.game.now.game in
    let none : c.loop-place.place-iterator ≡ [] = search rules in
    let same : c.into_iter-place-iterator.result ≡ c.args.columns = search rules in
    loads_done land c.loop-place.encoded
    (with_loads land c.args.encoded.now c.into_iter-place-iterator.result)
    c.loop-place.place-iterator none c.loop-place.invariant.loaded
    ∙ ap (with_loads land c.args.encoded.now) same

pub returns-clause-bounded : goal.returns-clause-bounded
returns-clause-bounded g c =
    let same : c.into_iter-place-iterator.result ≡ c.args.columns = search rules in
    let size = ap (λ (places : List Place). cells * length places) same in
    omega (arith, c.loop-place.invariant.bounded, size)

pub returns-in_err-prepare_place-clause-bounded : goal.returns-in_err-prepare_place-clause-bounded
returns-in_err-prepare_place-clause-bounded g c =
    let same : c.into_iter-place-iterator.result ≡ c.args.columns = search rules in
    let size = ap (λ (places : List Place). cells * length places) same in
    let within = columns_within c.loop-place.steps c.prepare_place.new.steps _ c.in-Some.place
    c.loop-place.place-iterator c.next.new.self c.in-Some.ensures.steps
    c.loop-place.invariant.bounded c.prepare_place.ensures.bounded in
    omega (arith, within, size)

pub returns-in_err-prepare_place-clause-same : goal.returns-in_err-prepare_place-clause-same
returns-in_err-prepare_place-clause-same g c =
    prepares_onward c.args.game.now c.loop-place.game c.prepare_place.new.game
    c.loop-place.invariant.same c.prepare_place.ensures.same

pub returns-in_err-prepare_place-clause-frames : goal.returns-in_err-prepare_place-clause-frames
returns-in_err-prepare_place-clause-frames g c = λ list are.
    c.prepare_place.ensures.frames list (c.loop-place.invariant.frames list are)
