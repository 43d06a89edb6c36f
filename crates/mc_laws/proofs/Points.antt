-- The packets of all parts of the difference together make of what a client saw what it is to see.
use Rattle.std.proofs.Common.{◌≡◌}
use Rattle.std.specs.List.{filter, fold}
use Rattle.std.specs.FinMap.{entries}
use Rattle.mc_model.specs.Sight.{Sight}
use Rattle.mc_model.specs.Replica.{replay, seeing}
use Rattle.mc_model.specs.Delta.{Follows, delta}
use Rattle.mc_model.proofs.Maps.Sorted.{take_out, is_without}
use Rattle.mc_laws.proofs.Leading.{onward, no_packets}
use Rattle.mc_laws.proofs.PointsPlayers.{leavers_point_leads, joiners_point_leads}
use Rattle.mc_laws.proofs.PointsColumns.{unloads_point_leads, loads_point_leads}
use Rattle.mc_laws.proofs.PointsCells.{cells_point_leads}
use Rattle.mc_laws.proofs.PointsEntities.{destroys_point_leads, entities_point_leads}
use Rattle.mc_laws.proofs.PointsWindow.{cursor_point_leads, window_point_leads}
use Rattle.mc_laws.proofs.PointsBeats.{beat_point_leads, time_point_leads}
use Rattle.mc_laws.proofs.PointsChat.{chat_point_leads}

-- the difference makes of what one saw what the other sees
pub difference_leads : (p q : Sight) → Follows p q → replay (seeing p) (delta p q) ≡ seeing q
unfolding delta
difference_leads p q follows =
    let told : Sight = record p { beat = q.beat; age = q.age } in
    let players : Sight = record told { pairs = q.pairs } in
    let left : Sight = record players {
      entities = fold take_out p.entities
          (filter (is_without q.entities) (entries p.entities));
    } in
    let carries : Sight = record q { cursor = p.cursor; chat = p.chat } in
    (onward (beat_point_leads p q p follows)
    (onward (time_point_leads p q (record p { beat = q.beat }) follows)
    (onward (leavers_point_leads told q)
    (onward (joiners_point_leads told q)
    (onward (destroys_point_leads p q players)
    (onward (unloads_point_leads p q left)
    (onward (loads_point_leads p q left follows)
    (onward (cells_point_leads p q left follows)
    (onward (entities_point_leads p q (record carries { window = p.window; pack = p.pack })
    follows)
    (onward (window_point_leads p q carries follows)
    (onward (cursor_point_leads p q (record q { chat = p.chat }))
    (onward (chat_point_leads p q q follows)
    (no_packets q))))))))))))).is
