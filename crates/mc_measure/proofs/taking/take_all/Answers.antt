use Rattle.std.proofs.Common.{◌≡◌, ◌+◌, refl, rules, ◌∙◌}
use Rattle.mc_measure.proofs.Owed.{all_next, all_start}
use Rattle.mc_measure.proofs.taking.take_all.Goals as goal

pub loop-connection-init : goal.loop-connection-init
loop-connection-init c = record {
  taking = λ w st. all_start c.args.connections.now w c.args.server.now st;
  age = refl;
}

pub loop-connection-preserved : goal.loop-connection-preserved
loop-connection-preserved c =
    let at = c.loop-connection in
    let is : c.in-Some.more ≡ c.loop-connection.total + c.in_ok-count.count = search rules in
    record {
      taking = λ w st. all_next c.args.connections.now at.connection-index 0 w at.server
          c.take_owed.new.server at.total c.in_ok-count.count c.in-Some.more
          c.loop-connection-test.true is c.in_ok-count.ensures.taken (at.invariant.taking w st);
      age = c.take_owed.ensures.age ∙ at.invariant.age;
    }
