use Rattle.std.proofs.Common.{◌≡◌, drop}
use Rattle.std.specs.List.{fold}
use Rattle.mc_told.specs.EntityFrames.{AreEncoded, EntitiesValue}
use Rattle.mc_flush.specs.Encoding.{with_frames_beside}
use Rattle.mc_flush.proofs.encoded.add_all.Given as goal

-- with the frames of what is left it is with all of them
abbrev pub invariant-loop-entity : goal.invariant-loop-entity
invariant-loop-entity l = record {
  entities : ◌≡◌ {A = EntitiesValue}
      (fold (with_frames_beside l.columns l.folk.state) l.entities
      (drop l.entity-index l.entity-items))
      (fold (with_frames_beside l.columns l.folk.state) l.initial.entities l.entity-items);
  frames : AreEncoded l.initial.entities → AreEncoded l.entities;
}
