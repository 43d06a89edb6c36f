use Rattle.std.proofs.Common.{◌≡◌, length, rules}
use Rattle.mc_status.proofs.Lines.{taking_done, taking_next, taking_start}
use Rattle.mc_status.proofs.answers.take_owed.Goals as goal

pub taking-init : goal.taking-init
taking-init c = record {
  taking = λ s has. taking_start s c.args.server.now c.args.owed.now.items has;
}

pub returns-then-count-eq0 : goal.returns-then-count-eq0
returns-then-count-eq0 c =
    let none : length c.front-front.result.now ≡ 0 = search rules in
    record {
      taken = λ s has. taking_done s c.taking.server c.args.owed.now.items c.taking.owed.items
          c.front-front.result.now (c.taking.invariant.taking s has) none
          c.front-front.ensures.empty;
    }

pub taking-preserved : goal.taking-preserved
taking-preserved c = record {
  taking = λ s has. rw c.in_ok-extend_from_slice.ensures.items (taking_next s c.taking.server
      c.took.new.self c.args.owed.now.items c.taking.owed.items c.front-front.result.now
      (c.taking.invariant.taking s has) c.front-front.ensures.first c.took.ensures.follows);
}
