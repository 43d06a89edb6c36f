use Rattle.std.proofs.Common.{◌≡◌, ◌≤◌, ◌+◌, ℕ, drop}
use Rattle.std.specs.List.{sum_by}
use Rattle.std.specs.FinMap.{get}
use Rattle.mc_flush.specs.Encoding.{AreFrames}
use Rattle.mc_flush.specs.Lists.{ListValue}
use Rattle.mc_play.specs.Kept.{land_of}
use Rattle.mc_showing.specs.Looking.{view_looks}
use Rattle.mc_showing.specs.Preparing.{Prepares}
use Rattle.mc_events.specs.Looks.{all_prepared, of_client}
use Rattle.mc_events.proofs.Preparings.{AreReadySo}
use Rattle.mc_events.proofs.server.ticking.prepare_all.Given as goal

-- all is ready and encoded for those so far
abbrev pub invariant-loop-id : goal.invariant-loop-id
invariant-loop-id g l = record {
  ready : AreReadySo l.game (drop l.id-index l.ids) l.connections;
  same : Prepares l.initial.game l.game;
  frames : (list : ListValue) → AreFrames (land_of l.initial.game) list l.initial.encoded
      → AreFrames (land_of l.game) list l.encoded;
  prepared : all_prepared l.initial.game.settled l.initial.game.game l.connections
      (drop l.id-index l.ids) l.encoded
      ≡ all_prepared l.initial.game.settled l.initial.game.game l.connections l.ids
      l.initial.encoded;
  bounded : l.steps + sum_by (λ (k : ℕ). of_client
      (view_looks l.initial.game.settled l.initial.game.game) l.initial.game.game
      (get l.connections k)) (drop l.id-index l.ids)
      ≤ l.initial.steps + sum_by (λ (k : ℕ). of_client
      (view_looks l.initial.game.settled l.initial.game.game) l.initial.game.game
      (get l.connections k)) l.ids;
}
