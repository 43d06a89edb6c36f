use Rattle.std.proofs.Common.{rules, ◌≡◌, get_or}
use Rattle.mc_told.proofs.KeptRows.{got_at, got_gap}
use Rattle.mc_told.proofs.encoded_entities.EncodedEntities.spawn_of.Goals as goal

pub returns-in-Ok : goal.returns-in-Ok
returns-in-Ok c =
    let es = c.self.inside.spawns.items in
    let was = c.index.result.now in
    let read : was ≡ get_or es c.in-Ok.at was = search rules in
    rw (← c.self.view_is)
    (got_at es c.args.eid c.in-Ok.at was c.self.invariant (search rules) read)

pub returns-in-Err : goal.returns-in-Err
returns-in-Err c = rw (← c.self.view_is)
    (got_gap c.self.inside.spawns.items c.args.eid c.in-Err.field-0 c.self.invariant (search rules))
