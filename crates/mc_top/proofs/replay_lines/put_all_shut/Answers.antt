use Rattle.std.proofs.Common.{get_or, refl, inl, ◌∙◌}
use Rattle.std.proofs.lemmas.Result.{err_from_is_err_and}
use Rattle.mc_wire.proofs.Counts.{StandsOrRises-trans}
use Rattle.mc_measure.specs.Settling.{forgotten}
use Rattle.mc_top.specs.Replaying.{shut_in}
use Rattle.mc_top.proofs.Tellings.{underway_start, underway_next, underway_breaks}
use Rattle.mc_top.proofs.replay_lines.put_all_shut.Goals as goal

pub loop-connection-init : goal.loop-connection-init
loop-connection-init g c = record {
  underway = λ w s. underway_start forgotten shut_in c.args.connections.now w c.args.server.now _
      c.args.lines.now.items s;
  age = refl;
  counts = inl refl;
}

pub returns-in_err-put_shut-clause-breaks : goal.returns-in_err-put_shut-clause-breaks
returns-in_err-put_shut-clause-breaks g c w s =
    let ks = c.args.connections.now in
    let i = c.loop-connection.connection-index in
    let p = err_from_is_err_and c.from_residual.result c.from_residual.ensures.1 in
    rw p.1 (underway_breaks forgotten shut_in ks w c.loop-connection.server _ _ _ i (get_or ks i 0)
    0 c.args.lines.now.items c.loop-connection.lines.items c.loop-connection-test.true refl
    (c.loop-connection.invariant.underway w s) c.in_err-put_shut.ensures.breaks)

pub loop-connection-preserved : goal.loop-connection-preserved
loop-connection-preserved g c =
    let ks = c.args.connections.now in
    let i = c.loop-connection.connection-index in
    record {
      underway = λ w s. underway_next forgotten shut_in ks w c.loop-connection.server
          c.put_shut.new.server _ _ _ i (get_or ks i 0) 0 c.args.lines.now.items
          c.loop-connection.lines.items c.put_shut.new.lines.items c.loop-connection-test.true refl
          (c.loop-connection.invariant.underway w s) c.in_ok-put_shut.ensures.forgotten;
      age = c.in_ok-put_shut.ensures.age ∙ c.loop-connection.invariant.age;
      counts =
          StandsOrRises-trans _ _ _ c.loop-connection.invariant.counts c.put_shut.ensures.counts;
    }
