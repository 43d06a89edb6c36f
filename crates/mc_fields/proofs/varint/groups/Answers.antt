use Rattle.std.proofs.Common.{◌≡◌, suc, ◌+◌, ◌-◌, arith, rules}
use Rattle.mc_fields.specs.VarintLaws.{high_below, some_room}
use Rattle.mc_fields.proofs.Groups.{spelled-more, spelled-last}
use Rattle.mc_fields.proofs.varint.groups.Goals as goal

pub loop-rest-preserved : goal.loop-rest-preserved
loop-rest-preserved c =
    let room : 5 - c.loop-rest.len ≡ suc (5 - (c.loop-rest.len + 1)) = omega arith in
    let below = rw room at c.loop-rest.invariant.below in
    let spelled = rw room at c.loop-rest.invariant.spelled in
    let more = some_room (5 - (c.loop-rest.len + 1)) c.loop-rest.rest below c.loop-rest-test.true in
    record {
      within = omega (arith, more);
      size = search rules;
      below = high_below c.loop-rest.rest (5 - (c.loop-rest.len + 1)) below;
      spelled = spelled-more (5 - (c.loop-rest.len + 1)) c.loop-rest.len c.loop-rest.rest
          c.loop-rest.bytes _ (omega arith) c.loop-rest-test.true spelled;
    }

pub returns-clause-spelling : goal.returns-clause-spelling
returns-clause-spelling c =
    let room : 5 - c.loop-rest.len ≡ suc (5 - (c.loop-rest.len + 1)) = omega arith in
    let spelled = rw room at c.loop-rest.invariant.spelled in
    spelled-last (5 - (c.loop-rest.len + 1)) c.loop-rest.len c.loop-rest.rest c.loop-rest.bytes _
    (omega arith) (omega arith) spelled
