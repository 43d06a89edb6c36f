use Rattle.std.proofs.Common.{ℕ, ◌+◌, ◌≤◌, List, drop, get_or, sym, subst, refl, rules}
use Rattle.std.specs.List.{sum_by}
use Rattle.std.specs.FinMap.{get}
use Rattle.mc_showing.specs.Looking.{view_looks}
use Rattle.mc_showing.proofs.ReadyFacts.{prepares_itself, prepares_onward}
use Rattle.mc_events.specs.Looks.{all_prepared, of_client}
use Rattle.mc_events.proofs.TickLooks.{looks_left_over, looks_on, looks_past, looks_within}
use Rattle.mc_events.proofs.TickLooks.{prepared_done, prepared_on, prepared_past, view_within}
use Rattle.mc_events.proofs.Preparings.{ready_done, ready_first, ready_on, ready_past}
use Rattle.mc_events.proofs.server.ticking.prepare_all.Goals.{in-Some+in_ok-prepare}
use Rattle.mc_events.proofs.server.ticking.prepare_all.Goals.{in_default}
use Rattle.mc_events.proofs.server.ticking.prepare_all.Goals as goal

pub loop-id-init : goal.loop-id-init
loop-id-init g c = record {
  ready = ready_first c.args.game.now c.args.ids.now c.args.connections.now c.requires.all;
  same = prepares_itself c.args.game.now c.args.game.now refl;
  frames = λ list are. are;
  prepared = refl;
  bounded = search rules;
}

pub loop-id-preserved : goal.loop-id-preserved
loop-id-preserved g c =
    let ids = c.args.ids.now in
    let i = c.loop-id.id-index in
    let m = c.args.connections.now in
    let v = c.loop-id.game in
    let h = c.loop-id.invariant in
    let old = c.args.game.now in
    let total = all_prepared old.settled old.game m ids c.args.encoded.now in
    elim c.match-find.branch [
      | in-Some+in_ok-prepare w ↦ rw (w.game-is, w.encoded-is, w.steps-is) (record {
        ready = ready_on ids i m c.loop-id-test.true v w.prepare.new.game
            w.in-Some.connection.now w.prepare.ensures.same h.ready (sym w.in-Some.ensures)
            w.in_ok-prepare.ensures.ready;
        same = prepares_onward c.args.game.now v w.prepare.new.game h.same
            w.prepare.ensures.same;
        frames = λ list are. w.prepare.ensures.frames list (h.frames list are);
        prepared = prepared_on old m ids i c.loop-id-test.true v w.in-Some.connection.now
            c.loop-id.encoded w.prepare.new.encoded total h.same (sym w.in-Some.ensures)
            w.in_ok-prepare.ensures.prepared h.prepared;
        bounded = looks_on (λ (k : ℕ). of_client (view_looks old.settled old.game) old.game
            (get m k)) ids i c.loop-id-test.true c.loop-id.steps w.prepare.new.steps _ h.bounded
            (view_within old v m (get_or ids i 0) c.loop-id.steps w.prepare.new.steps
            w.in-Some.connection.now h.same (sym w.in-Some.ensures) w.prepare.ensures.bounded);
      })
      | in_default w ↦ rw (w.game-is, w.encoded-is, w.steps-is) (record {
        ready = ready_past ids i m c.loop-id-test.true v h.ready (search rules);
        same = h.same;
        frames = h.frames;
        prepared = prepared_past old m ids i c.loop-id-test.true c.loop-id.encoded total
            (search rules) h.prepared;
        bounded = looks_past (λ (k : ℕ). of_client (view_looks old.settled old.game) old.game
            (get m k)) ids i c.loop-id-test.true c.loop-id.steps _ h.bounded;
      })
    ]

pub returns-in_err-prepare-clause-same : goal.returns-in_err-prepare-clause-same
returns-in_err-prepare-clause-same g c =
    prepares_onward c.args.game.now c.loop-id.game c.prepare.new.game c.loop-id.invariant.same
    c.prepare.ensures.same

pub returns-in_err-prepare-clause-frames : goal.returns-in_err-prepare-clause-frames
returns-in_err-prepare-clause-frames g c = λ list are.
    c.prepare.ensures.frames list (c.loop-id.invariant.frames list are)

pub returns-clause-ready : goal.returns-clause-ready
returns-clause-ready g c = ready_done c.loop-id.game c.args.ids.now c.loop-id.id-index
    c.args.connections.now c.loop-id-test.false c.loop-id.invariant.ready

pub returns-clause-prepared : goal.returns-clause-prepared
returns-clause-prepared g c =
    let old = c.args.game.now in
    prepared_done old c.args.connections.now c.args.ids.now c.loop-id.id-index
    c.loop-id.encoded
    (all_prepared old.settled old.game c.args.connections.now c.args.ids.now
    c.args.encoded.now) c.loop-id-test.false c.loop-id.invariant.prepared

pub returns-clause-bounded : goal.returns-clause-bounded
returns-clause-bounded g c =
    let old = c.args.game.now in
    let m = c.args.connections.now in
    let f : ℕ → ℕ = λ k. of_client (view_looks old.settled old.game) old.game (get m k) in
    subst (λ (ks : List ℕ). c.loop-id.steps ≤ c.args.steps.now + sum_by f ks) c.requires.all
    (looks_left_over f (drop c.loop-id.id-index c.args.ids.now) c.loop-id.steps _
    c.loop-id.invariant.bounded)

pub returns-in_err-prepare-clause-bounded : goal.returns-in_err-prepare-clause-bounded
returns-in_err-prepare-clause-bounded g c =
    let old = c.args.game.now in
    let m = c.args.connections.now in
    let ids = c.args.ids.now in
    let i = c.loop-id.id-index in
    let f : ℕ → ℕ = λ k. of_client (view_looks old.settled old.game) old.game (get m k) in
    subst (λ (ks : List ℕ). c.prepare.new.steps ≤ c.args.steps.now + sum_by f ks) c.requires.all
    (looks_within f ids i c.loop-id-test.true c.loop-id.steps c.prepare.new.steps _
    c.loop-id.invariant.bounded
    (view_within old c.loop-id.game m (get_or ids i 0) c.loop-id.steps c.prepare.new.steps
    c.in-Some.connection.now c.loop-id.invariant.same (sym c.in-Some.ensures)
    c.prepare.ensures.bounded))
