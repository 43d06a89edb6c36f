use Rattle.std.proofs.Common.{◌≡◌, ℕ, ◌+◌, ◌<◌, refl, sym, subst, ap, ◌∙◌}
use Rattle.std.proofs.lemmas.Result.{on_ok_weaker}
use Rattle.mc_model.specs.Pickups.{pickups}
use Rattle.mc_links.specs.Beating.{IsBeaten}
use Rattle.mc_play.specs.Kept.{GameValue, played}
use Rattle.mc_events.specs.contracts.server.Server.{the_view}
use Rattle.mc_events.specs.Looks.{AreShownSame}
use Rattle.mc_events.specs.Served.{Each, ServerValue, age_of}
use Rattle.mc_events.specs.Ticking.{StandsAmid, StaysListed, dismissed}
use Rattle.mc_events.proofs.Beaten.{beaten_plans, beaten_stands, grown_age}
use Rattle.mc_events.proofs.TickLooks.{beaten_marks}
use Rattle.mc_events.proofs.server.Server.beat.Goals as goal

pub returns-clause-follows : goal.returns-clause-follows
returns-clause-follows g c = λ w s same.
    let old = the_view c.self.inside in
    let left_ : GameValue = c.dismiss.new.game in
    let turned : GameValue = c.move_mobs.new.self in
    let end : GameValue = c.pick_up_all.new.self in
    let game = ap (λ (v : GameValue). v.game) c.move_mobs.ensures.game in
    let settled = ap (λ (v : GameValue). v.settled) c.move_mobs.ensures.game in
    on_ok_weaker c.pick_up_all.result
    (λ (picked : end ≡ played turned (pickups turned.game) end.aside).
    beaten_stands old c.beat_all.new.connections left_.game w
    (subst (λ (v : ServerValue). StandsAmid v w) (sym c.self.view_is) s)
    c.self.inside.ids.items (c.self.invariant.are ∙ sym c.beat_all.ensures.same)
    (subst (λ (v : GameValue). Each (λ (k : ℕ). IsBeaten v.game) old.connections
    c.beat_all.new.connections) c.grow.ensures c.in_ok-beat_all.ensures.beaten)
    (ap (λ (v : GameValue). v.game) c.in_ok-dismiss.ensures.game
    ∙ (λ i. dismissed c.beat_all.new.connections (c.as_slice-2.ensures.value i)
    (c.grow.ensures i).game))
    (record old { game = end; connections = c.beat_all.new.connections; list = c.dismiss.new.list })
    _ same (ap (λ (v : GameValue). v.game) picked ∙ ap pickups game)
    (ap (λ (v : GameValue). v.settled) picked ∙ settled
    ∙ ap (λ (v : GameValue). v.settled) c.in_ok-dismiss.ensures.game
    ∙ ap (λ (v : GameValue). v.settled) c.grow.ensures) refl
    (subst (λ (v : GameValue). StaysListed old.list c.dismiss.new.list v.game left_.game)
    c.grow.ensures c.in_ok-dismiss.ensures.listed)
    c.in_ok-dismiss.ensures.last refl refl) c.pick_up_all.ensures.is

pub returns-clause-plans : goal.returns-clause-plans
returns-clause-plans g c = λ w s same.
    let old = the_view c.self.inside in
    on_ok_weaker c.pick_up_all.result (λ _.
    beaten_plans old c.beat_all.new.connections c.dismiss.new.game.game w
    (subst (λ (v : ServerValue). StandsAmid v w) (sym c.self.view_is) s)
    c.self.inside.ids.items (c.self.invariant.are ∙ sym c.beat_all.ensures.same)
    (subst (λ (v : GameValue). Each (λ (k : ℕ). IsBeaten v.game) old.connections
    c.beat_all.new.connections) c.grow.ensures c.in_ok-beat_all.ensures.beaten)
    (ap (λ (v : GameValue). v.game) c.in_ok-dismiss.ensures.game
    ∙ (λ i. dismissed c.beat_all.new.connections (c.as_slice-2.ensures.value i)
    (c.grow.ensures i).game)) _ same ∙ sym c.move_mobs.ensures.plans) c.pick_up_all.ensures.is

pub returns-clause-age : goal.returns-clause-age
returns-clause-age g c =
    let left_ : GameValue = c.dismiss.new.game in
    let turned : GameValue = c.move_mobs.new.self in
    let end : GameValue = c.pick_up_all.new.self in
    on_ok_weaker c.pick_up_all.result
    (λ (picked : end ≡ played turned (pickups turned.game) end.aside).
    ap (λ (v : GameValue). v.game.age) picked
    ∙ ap (λ (v : GameValue). (pickups v.game).age) c.move_mobs.ensures.game
    ∙ grown_age c.beat_all.new.connections c.as_slice-2.result.now _ c.self.inside.game.game
    c.grow.new.self.game left_.game (ap (λ (v : GameValue). v.game) c.grow.ensures)
    (ap (λ (v : GameValue). v.game) c.in_ok-dismiss.ensures.game)
    (subst (λ (v : ServerValue). age_of v < 1000000000) (sym c.self.view_is) c.requires.young)
    ∙ ap (λ (v : ServerValue). age_of v + 1) c.self.view_is) c.pick_up_all.ensures.is

pub returns-clause-ready : goal.returns-clause-ready
returns-clause-ready g c =
    let end : GameValue = c.pick_up_all.new.self in
    on_ok_weaker c.pick_up_all.result
    (λ (same : end.aside.ready ≡ c.move_mobs.new.self.aside.ready).
    same ∙ ap (λ (v : GameValue). v.aside.ready) c.move_mobs.ensures.game
    ∙ c.in_ok-dismiss.ensures.ready ∙ ap (λ (v : GameValue). v.aside.ready) c.grow.ensures
    ∙ ap (λ (v : ServerValue). v.game.aside.ready) c.self.view_is) c.pick_up_all.ensures.ready

pub returns-clause-settled : goal.returns-clause-settled
returns-clause-settled g c =
    let turned : GameValue = c.move_mobs.new.self in
    let end : GameValue = c.pick_up_all.new.self in
    on_ok_weaker c.pick_up_all.result
    (λ (picked : end ≡ played turned (pickups turned.game) end.aside).
    ap (λ (v : GameValue). v.settled) picked
    ∙ ap (λ (v : GameValue). v.settled) c.move_mobs.ensures.game
    ∙ ap (λ (v : GameValue). v.settled) c.in_ok-dismiss.ensures.game
    ∙ ap (λ (v : GameValue). v.settled) c.grow.ensures
    ∙ ap (λ (v : ServerValue). v.game.settled) c.self.view_is) c.pick_up_all.ensures.is

pub returns-clause-marks : goal.returns-clause-marks
returns-clause-marks g c =
    on_ok_weaker c.pick_up_all.result
    (λ _. subst (λ (v : ServerValue). AreShownSame v.connections c.beat_all.new.connections)
    c.self.view_is (beaten_marks c.grow.new.self.game (the_view c.self.inside).connections
    c.beat_all.new.connections c.in_ok-beat_all.ensures.beaten c.beat_all.ensures.same))
    c.pick_up_all.ensures.is
