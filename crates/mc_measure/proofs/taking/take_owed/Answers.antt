use Rattle.std.proofs.Common.{◌≡◌, ◌+◌, ◌<◌, ℕ, List, length, refl, rules, ◌∙◌}
use Rattle.mc_measure.proofs.Owed.{taking_next, taking_start}
use Rattle.mc_measure.proofs.taking.take_owed.Goals as goal

pub taking-init : goal.taking-init
taking-init c = record {
  taking = λ w st. taking_start c.args.connection w c.args.server.now st;
  age = refl;
}

pub taking-preserved : goal.taking-preserved
taking-preserved c =
    let front : List ℕ = c.front-count.result.now in
    let some : 0 < length front = search rules in
    let is : c.in-Some.more ≡ c.taking.total + length front = search rules in
    record {
      taking = λ w st. taking_next c.args.connection w c.taking.server c.took.new.self front
          c.taking.total c.in-Some.more some is c.front-count.ensures.first c.took.ensures.follows
          (c.taking.invariant.taking w st);
      age = c.took.ensures.age ∙ c.taking.invariant.age;
    }
