use Rattle.std.proofs.Common.{sym, subst}
use Rattle.mc_flush.specs.Encoding.{AreFrames}
use Rattle.mc_flush.proofs.encoded.Encoded.add_entities.Goals as goal

pub returns-clause-frames : goal.returns-clause-frames
returns-clause-frames c = λ land list frames.
    let all : AreFrames land list (record {
      players = c.self.inside.players;
      loads = c.self.inside.columns.loads;
      changes = c.self.inside.columns.changes;
      entities = c.self.inside.entities;
      lines = c.self.inside.lines;
    }) = subst (AreFrames land list) (sym c.self.view_is) frames in
    record {
      players = all.players;
      loads = all.loads;
      changes = all.changes;
      entities = c.add_all.ensures.frames all.entities;
      lines = all.lines;
    }
