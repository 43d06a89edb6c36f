use Rattle.std.proofs.Common.{ℕ, ◌+◌, ◌≤◌, drop}
use Rattle.std.specs.List.{sum_by}
use Rattle.std.specs.FinMap.{get}
use Rattle.mc_flush.specs.Seeing.{present_parts, settled_parts}
use Rattle.mc_links.specs.Kept.{ConnectionValue}
use Rattle.mc_links.specs.Showing.{IsShown}
use Rattle.mc_play.specs.Kept.{land_of}
use Rattle.mc_showing.specs.Looking.{rest_looks}
use Rattle.mc_showing.specs.Shown.{IsListed}
use Rattle.mc_events.specs.Looks.{AreMarked, of_client}
use Rattle.mc_events.proofs.Numbered.{Walks}
use Rattle.mc_events.proofs.server.ticking.show_all.Given as goal

-- those so far were shown the game, and no connection came or went
abbrev pub invariant-loop-id : goal.invariant-loop-id
invariant-loop-id g l = record {
  walks : Walks (λ (k : ℕ) (c d : ConnectionValue).
      IsListed l.scene.list.now l.scene.game.now.game → IsShown l.scene.game.now
      (settled_parts (land_of l.scene.game.now) l.scene.list.now)
      (present_parts (land_of l.scene.game.now) l.scene.list.now) c d)
      l.ids l.id-index l.initial.connections l.connections;
  only : AreMarked l.initial.connections l.connections;
  bounded : l.steps + sum_by (λ (k : ℕ). of_client (rest_looks l.scene.encoded.now
      l.scene.game.now.settled l.scene.game.now.game) l.scene.game.now.game
      (get l.initial.connections k)) (drop l.id-index l.ids)
      ≤ l.initial.steps + sum_by (λ (k : ℕ). of_client (rest_looks l.scene.encoded.now
      l.scene.game.now.settled l.scene.game.now.game) l.scene.game.now.game
      (get l.initial.connections k)) l.ids;
}
