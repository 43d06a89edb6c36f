use Rattle.std.proofs.Common.{◌∙◌, get_or, sym, rules}
use Rattle.mc_events.proofs.Numbered.{walk_first, walk_next, walk_skip}
use Rattle.mc_events.proofs.Numbers.{keys_kept}
use Rattle.mc_events.proofs.server.ticking.beat_all.Goals.{in-Some+in_ok-beat, in_default}
use Rattle.mc_events.proofs.server.ticking.beat_all.Goals as goal

pub loop-id-init : goal.loop-id-init
loop-id-init c = walk_first c.requires.all

pub returns-in_err-beat-clause-same : goal.returns-in_err-beat-clause-same
returns-in_err-beat-clause-same c =
    keys_kept c.loop-id.connections (get_or c.args.ids.now c.loop-id.id-index 0)
    c.in-Some.connection.now c.beat.new.connection (sym c.in-Some.ensures.is)
    ∙ c.loop-id.invariant.same

pub loop-id-preserved : goal.loop-id-preserved
loop-id-preserved c = elim c.match-find_mut.branch [
  | in-Some+in_ok-beat w ↦ rw w.connections-is (walk_next c.loop-id-test.true c.loop-id.invariant
      w.beat.new.connection (sym w.in-Some.ensures.is) w.in_ok-beat.ensures.beaten)
  | in_default w ↦ rw w.connections-is
      (walk_skip c.loop-id-test.true c.loop-id.invariant (search rules))
]
