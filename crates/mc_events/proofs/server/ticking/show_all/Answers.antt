use Rattle.std.proofs.Common.{◌∙◌, ℕ, ◌+◌, ◌≤◌, List, drop, get_or, sym, subst, rules}
use Rattle.std.specs.List.{sum_by}
use Rattle.std.specs.FinMap.{get}
use Rattle.mc_showing.specs.Looking.{rest_looks}
use Rattle.mc_events.specs.Looks.{of_client}
use Rattle.mc_events.proofs.Numbered.{to_come, walk_first, walk_next, walk_skip}
use Rattle.mc_events.proofs.Numbers.{keys_kept}
use Rattle.mc_events.proofs.TickLooks.{client_within, looks_left_over, looks_on, looks_past}
use Rattle.mc_events.proofs.TickLooks.{looks_within, marked_itself, marked_on}
use Rattle.mc_events.proofs.server.ticking.show_all.Goals.{in-Some+in_ok-show, in_default}
use Rattle.mc_events.proofs.server.ticking.show_all.Goals as goal

pub loop-id-init : goal.loop-id-init
loop-id-init g c = record {
  walks = walk_first c.requires.all;
  only = marked_itself c.args.connections.now;
  bounded = search rules;
}

pub show-requires-clause-ready : goal.show-requires-clause-ready
show-requires-clause-ready g c =
    c.requires.ready (get_or c.args.ids.now c.loop-id.id-index 0) c.in-Some.connection.now
    (sym (to_come c.loop-id-test.true c.loop-id.invariant.walks) ∙ sym c.in-Some.ensures.is)

pub returns-in_err-show-clause-same : goal.returns-in_err-show-clause-same
returns-in_err-show-clause-same g c =
    keys_kept c.loop-id.connections (get_or c.args.ids.now c.loop-id.id-index 0)
    c.in-Some.connection.now c.show.new.self (sym c.in-Some.ensures.is)
    ∙ c.loop-id.invariant.walks.same

pub returns-in_err-show-clause-only : goal.returns-in_err-show-clause-only
returns-in_err-show-clause-only g c =
    marked_on c.args.connections.now c.loop-id.connections
    (get_or c.args.ids.now c.loop-id.id-index 0) c.in-Some.connection.now c.show.new.self
    c.loop-id.invariant.only (sym c.in-Some.ensures.is) c.show.ensures.only

pub returns-in_err-show-clause-bounded : goal.returns-in_err-show-clause-bounded
returns-in_err-show-clause-bounded g c =
    let v = c.args.scene.now.game.now in
    let m = c.args.connections.now in
    let ids = c.args.ids.now in
    let i = c.loop-id.id-index in
    let looks = rest_looks c.args.scene.now.encoded.now v.settled v.game in
    let f : ℕ → ℕ = λ k. of_client looks v.game (get m k) in
    subst (λ (ks : List ℕ). c.show.new.steps ≤ c.args.steps.now + sum_by f ks) c.requires.all
    (looks_within f ids i c.loop-id-test.true c.loop-id.steps c.show.new.steps _
    c.loop-id.invariant.bounded
    (client_within looks v.game m (get_or ids i 0) c.loop-id.steps c.show.new.steps
    c.in-Some.connection.now
    (sym (to_come c.loop-id-test.true c.loop-id.invariant.walks) ∙ sym c.in-Some.ensures.is)
    c.show.ensures.bounded))

pub returns-clause-bounded : goal.returns-clause-bounded
returns-clause-bounded g c =
    let v = c.args.scene.now.game.now in
    let m = c.args.connections.now in
    let f : ℕ → ℕ = λ k. of_client (rest_looks c.args.scene.now.encoded.now v.settled v.game)
    v.game (get m k) in
    subst (λ (ks : List ℕ). c.loop-id.steps ≤ c.args.steps.now + sum_by f ks) c.requires.all
    (looks_left_over f (drop c.loop-id.id-index c.args.ids.now) c.loop-id.steps _
    c.loop-id.invariant.bounded)

pub loop-id-preserved : goal.loop-id-preserved
loop-id-preserved g c =
    let v = c.args.scene.now.game.now in
    let m = c.args.connections.now in
    let ids = c.args.ids.now in
    let i = c.loop-id.id-index in
    let h = c.loop-id.invariant in
    let looks = rest_looks c.args.scene.now.encoded.now v.settled v.game in
    let f : ℕ → ℕ = λ k. of_client looks v.game (get m k) in
    elim c.match-find_mut.branch [
      | in-Some+in_ok-show w ↦ rw (w.connections-is, w.steps-is) (record {
        walks = walk_next c.loop-id-test.true h.walks w.show.new.self
            (sym w.in-Some.ensures.is) w.in_ok-show.ensures.shown;
        only = marked_on m c.loop-id.connections (get_or ids i 0) w.in-Some.connection.now
            w.show.new.self h.only (sym w.in-Some.ensures.is) w.show.ensures.only;
        bounded = looks_on f ids i c.loop-id-test.true c.loop-id.steps w.show.new.steps _
            h.bounded (client_within looks v.game m (get_or ids i 0) c.loop-id.steps
            w.show.new.steps w.in-Some.connection.now
            (sym (to_come c.loop-id-test.true h.walks) ∙ sym w.in-Some.ensures.is)
            w.show.ensures.bounded);
      })
      | in_default w ↦ rw (w.connections-is, w.steps-is) (record {
        walks = walk_skip c.loop-id-test.true h.walks (search rules);
        only = h.only;
        bounded = looks_past f ids i c.loop-id-test.true c.loop-id.steps _ h.bounded;
      })
    ]
