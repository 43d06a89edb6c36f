use Rattle.std.proofs.Common.{refl, ◌∙◌}
use Rattle.mc_measure.proofs.Owed.{forgetting_next, forgetting_start}
use Rattle.mc_measure.proofs.taking.forget_all.Goals as goal

pub loop-connection-init : goal.loop-connection-init
loop-connection-init c = record {
  forgetting = λ w st. forgetting_start c.args.connections.now w c.args.server.now st;
  age = refl;
}

pub loop-connection-preserved : goal.loop-connection-preserved
loop-connection-preserved c =
    let at = c.loop-connection in
    record {
      forgetting = λ w st. forgetting_next c.args.connections.now at.connection-index 0 w at.server
          c.forget.new.self c.loop-connection-test.true c.forget.ensures.follows
          (at.invariant.forgetting w st);
      age = c.forget.ensures.age ∙ at.invariant.age;
    }
