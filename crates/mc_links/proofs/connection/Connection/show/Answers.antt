use Rattle.std.proofs.Common.{List, ℕ, ◌++◌, ap, sym, subst, ◌∙◌, OnOk}
use Rattle.std.specs.FinMap.{FinMap, get}
use Rattle.std.specs.Ordering.{nat_cmp}
use Rattle.mc_frame.specs.Kept.{joined}
use Rattle.mc_flush.specs.Seeing.{present_parts, settled_parts}
use Rattle.mc_model.specs.declared.player.Player.{Player}
use Rattle.mc_model.specs.Showing.{due}
use Rattle.mc_play.specs.Kept.{land_of}
use Rattle.mc_sending.specs.Sending.{play_bytes}
use Rattle.mc_links.specs.Kept.{ConnectionValue}
use Rattle.mc_links.specs.Showing.{IsShown}
use Rattle.mc_links.specs.contracts.connection.Connection.{the_view}
use Rattle.mc_links.proofs.Showings.{shown_by}
use Rattle.mc_links.proofs.connection.Connection.show.Goals as goal

pub returns-clause-shown : goal.returns-clause-shown
returns-clause-shown g c = λ listed.
    let scene = c.args.scene.now in
    let v = scene.game.now in
    let land = land_of v in
    let before = settled_parts land scene.list.now in
    let present = present_parts land scene.list.now in
    let p = c.in-Some.player.now in
    subst (λ (old : ConnectionValue). OnOk c.hand_all.result
    (IsShown v before present old c.hand_all.new.self)) c.self.view_is
    (shown_by v before present (the_view c.self.inside) c.hand_all.new.self c.push_for.new.mark p
    c.push_for.new.out.items
    (ap (λ (m : FinMap nat_cmp Player). get m c.self.inside.id) (sym c.players.ensures)
    ∙ sym c.in-Some.ensures)
    (λ shown was. c.in_ok-push_for.ensures.sent shown listed was
    ∙ ap (λ (ps : List (List ℕ)). joined ps ++ play_bytes (due v.game shown p))
    c.new-pieces.ensures.items)
    (λ last. c.in_ok-push_for.ensures.shows last listed) c.hand_all.result c.hand_all.ensures.ok)
