-- What a packet about entities changes of what is seen of them.
use Rattle.std.specs.FinMap.{insert}
use Rattle.mc_packets.specs.declared.down.Down.{Down}
use Rattle.mc_packets.specs.declared.down.Down.TheVariants.{Destroy, Equipment, HeadLook, Look, Meta}
use Rattle.mc_packets.specs.declared.down.Down.TheVariants.{SpawnMob, SpawnObject, SpawnPlayer}
use Rattle.mc_packets.specs.declared.down.Down.TheVariants.{Step, StepLook, Teleport}
use Rattle.mc_model.specs.declared.seen.SeenKind.TheVariants as seen_kinds
use Rattle.mc_model.specs.Replica.{Entities, altered, coming, looking, onward, put_at, wearing}
use Rattle.mc_model.specs.Replica.{with_metas, with_object, without_eids}
use Rattle.mc_model.specs.Sight.{Seen}

-- of one that it is about
abbrev pub changed : Down → Seen → Seen
changed (Step eid dx dy dz on_ground) e = put_at (onward dx dy dz e.spot) e
changed (StepLook eid dx dy dz yaw pitch on_ground) e =
    put_at (looking yaw pitch (onward dx dy dz e.spot)) e
changed (Look eid yaw pitch on_ground) e = record e { spot = looking yaw pitch e.spot }
changed (Teleport eid x y z yaw pitch on_ground) e =
    put_at (record { x = x; y = y; z = z; yaw = yaw; pitch = pitch }) e
changed (HeadLook eid head) e = record e { head = head }
changed (Equipment eid worn pile) e = wearing worn pile e
changed (Meta eid metas) e = with_metas metas e
changed other e = e

-- of all, by one that comes
abbrev pub spawned : Down → Entities → Entities
spawned (SpawnPlayer eid uuid x y z yaw pitch item metas) m =
    insert m eid
    (coming (seen_kinds.Player uuid) (record { x = x; y = y; z = z; yaw = yaw; pitch = pitch }))
spawned (SpawnObject eid kind x y z pitch yaw extra motion) m =
    with_object m eid kind (record { x = x; y = y; z = z; yaw = yaw; pitch = pitch })
spawned (SpawnMob eid kind x y z yaw pitch head dx dy dz metas) m =
    insert m eid (record
    (coming seen_kinds.Mob (record { x = x; y = y; z = z; yaw = yaw; pitch = pitch })) {
      head = head;
    })
spawned other m = m

-- of all, by one that goes or changes
abbrev pub entities_after : Down → Entities → Entities
entities_after (Destroy eids) m = without_eids m eids
entities_after (Step eid dx dy dz on_ground) m =
    altered m eid (changed (Step eid dx dy dz on_ground))
entities_after (StepLook eid dx dy dz yaw pitch on_ground) m =
    altered m eid (changed (StepLook eid dx dy dz yaw pitch on_ground))
entities_after (Look eid yaw pitch on_ground) m =
    altered m eid (changed (Look eid yaw pitch on_ground))
entities_after (Teleport eid x y z yaw pitch on_ground) m =
    altered m eid (changed (Teleport eid x y z yaw pitch on_ground))
entities_after (HeadLook eid head) m = altered m eid (changed (HeadLook eid head))
entities_after (Equipment eid worn pile) m = altered m eid (changed (Equipment eid worn pile))
entities_after (Meta eid metas) m = altered m eid (changed (Meta eid metas))
entities_after other m = m
