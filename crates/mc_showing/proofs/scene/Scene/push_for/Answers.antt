use Rattle.std.proofs.Common.{ℕ, ◌+◌, ◌++◌, ap, ◌∙◌, arith}
use Rattle.mc_frame.specs.Kept.{joined}
use Rattle.mc_model.specs.Showing.{last_shown}
use Rattle.mc_showing.proofs.SceneFacts.{columns_ready, due_sent, frames_are}
use Rattle.mc_showing.proofs.SceneFacts.{looks_are}
use Rattle.mc_showing.proofs.SceneFacts.{shows_now, stands_before}
use Rattle.mc_showing.proofs.scene.Scene.push_for.Goals as goal

pub flush_with-requires-clause-ready : goal.flush_with-requires-clause-ready
flush_with-requires-clause-ready g c =
    columns_ready c.args.self.now c.args.player.now c.view_for-part.result c.requires.scene
    c.view_for-part.ensures.is c.args.mark.now c.requires.ready

pub flush_with-requires-clause-frames : goal.flush_with-requires-clause-frames
flush_with-requires-clause-frames g c =
    frames_are c.args.self.now c.args.player.now c.view_for-part.result c.requires.scene
    c.view_for-part.ensures.is

pub returns-clause-sent : goal.returns-clause-sent
returns-clause-sent g c = λ shown listed shows.
    let scene = c.args.self.now in
    let p = c.args.player.now in
    let part = c.view_for-part.result in
    let stood = stands_before scene p part c.requires.scene c.view_for-part.ensures.is
    c.args.mark.now shown shows in
    due_sent scene p part c.requires.scene c.view_for-part.ensures.is listed c.args.mark.now shown
    (joined c.args.out.now.items) (joined c.push_opening.new.out.items)
    (joined c.flush_with.new.out.items) shows c.in_ok-push_opening.ensures
    (c.in_ok-flush_with.ensures.sent (last_shown shown) stood)

pub returns-clause-shows : goal.returns-clause-shows
returns-clause-shows g c = λ last listed.
    let part = c.view_for-part.result in
    shows_now c.args.self.now c.args.player.now part c.requires.scene c.view_for-part.ensures.is
    listed c.flush_with.new.mark last c.in_ok-flush_with.ensures.opened
    (c.in_ok-flush_with.ensures.stands (last.chat ++ part.lines.now))

pub returns-clause-cost : goal.returns-clause-cost
returns-clause-cost g c = c.in_ok-flush_with.ensures.cost
    ∙ ap (λ (n : ℕ). c.args.steps.now + n) (looks_are c.args.self.now c.args.player.now
    c.view_for-part.result c.requires.scene c.view_for-part.ensures.is c.args.mark.now)

pub returns-clause-bounded : goal.returns-clause-bounded
returns-clause-bounded g c =
    let looks = looks_are c.args.self.now c.args.player.now c.view_for-part.result
    c.requires.scene c.view_for-part.ensures.is c.args.mark.now in
    omega (arith, c.flush_with.ensures.bounded, looks)

pub returns-in_err-flush_with-clause-bounded : goal.returns-in_err-flush_with-clause-bounded
returns-in_err-flush_with-clause-bounded g c =
    let looks = looks_are c.args.self.now c.args.player.now c.view_for-part.result
    c.requires.scene c.view_for-part.ensures.is c.args.mark.now in
    omega (arith, c.flush_with.ensures.bounded, looks)
