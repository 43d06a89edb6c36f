use Rattle.std.proofs.Common.{◌+◌, drop, rules}
use Rattle.std.proofs.lemmas.List.{drop_more}
use Rattle.mc_flush.proofs.Encodings.{frames_next}
use Rattle.mc_flush.proofs.encoded.add_all.Goals as goal

pub returns-in_err-add_entity-clause-frames : goal.returns-in_err-add_entity-clause-frames
returns-in_err-add_entity-clause-frames c = λ frames.
    c.add_entity.ensures.frames (c.loop-entity.invariant.frames frames)

pub loop-entity-preserved : goal.loop-entity-preserved
loop-entity-preserved c =
    let es = c.all-entity-items.result.now in
    let i = c.loop-entity.entity-index in
    let h = c.loop-entity.invariant in
    record {
      entities = frames_next c.args.columns.now c.args.folk.now.state c.loop-entity.entities
          c.add_entity.new.self _ c.is_some-comes.result _ (drop i es) (drop (i + 1) es)
          (drop_more es i _ c.loop-entity-test.true) (search rules)
          c.in_ok-add_entity.ensures.ok h.entities;
      frames = λ frames. c.in_ok-add_entity.ensures.frames (h.frames frames);
    }
