use Rattle.std.proofs.Common.{rules, subst}
use Rattle.mc_flush.specs.Encoding.{AreFrames}
use Rattle.mc_flush.specs.Lists.{ListValue}
use Rattle.mc_loads.specs.Columns.{IsReady}
use Rattle.mc_sending.proofs.Pieces.{next_holds}
use Rattle.mc_scenes.proofs.flushes.encode.Goals as goal

pub loop-place-init : goal.loop-place-init
loop-place-init g c =
    let land = c.args.scene.now.land in
    let players = subst (λ (l : ListValue). AreFrames land l c.add_players.new.self)
    c.list.ensures.is
    (c.add_players.ensures.frames land (c.new-encoded.ensures.frames land c.list.result.now)) in
    record {
      ready = search rules;
      frames = c.add_lines.ensures.frames land c.args.scene.now.guests
          (c.add_entities.ensures.frames land c.args.scene.now.guests players);
    }

pub add_load-requires : goal.add_load-requires
add_load-requires g c =
    (next_holds (IsReady c.args.scene.now.land) c.loop-place.place-iterator c.next.new.self
    c.in-Some.place c.in-Some.ensures.steps c.loop-place.invariant.ready).0

pub loop-place-preserved : goal.loop-place-preserved
loop-place-preserved g c = record {
  ready = (next_holds (IsReady c.args.scene.now.land) c.loop-place.place-iterator c.next.new.self
      c.in-Some.place c.in-Some.ensures.steps c.loop-place.invariant.ready).1;
  frames = c.add_changes.ensures.frames _
      (c.add_load.ensures.frames _ c.loop-place.invariant.frames);
}
