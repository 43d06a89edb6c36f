use Rattle.std.proofs.Common.{◌<◌, length, rules, ◌∙◌}
use Rattle.std.proofs.Math.Nat.{min_comm}
use Rattle.mc_model.specs.declared.seen.TheConstants.{DESTROYED_MAX}
use Rattle.mc_told.proofs.Parts.{part_put}
use Rattle.mc_told.proofs.entities.put_destroys.Goals as goal

pub loop-rest-preserved : goal.loop-rest-preserved
loop-rest-preserved c =
    let left = c.loop-rest.rest.now in
    let some : 0 < length left = search rules in
    part_put c.min.result left c.split_at.result.0.now c.split_at.result.1.now
    c.loop-rest.out.items c.put_destroy.new.out.items _ some
    (c.min.ensures ∙ min_comm (length left) DESTROYED_MAX) c.split_at.ensures.front
    c.split_at.ensures.back c.in_ok-put_destroy.ensures c.loop-rest.invariant
